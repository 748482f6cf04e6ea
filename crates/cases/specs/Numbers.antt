-- The numbers of a case, by their bytes, the lowest first. Assumes nothing.
use Rattle.std.specs.Prelude.{true, false, List, map, ℕ, ◌+◌, ◌*◌, ◌/◌, length, leb}
use Rattle.lists.specs.Lists.{upto}
use Rattle.table_spec.specs.File.{word16}

-- the 16-bit number at a place, 0 past the end
unfoldable pub word_at : List ℕ → ℕ → ℕ
word_at b i = elim (leb (i + 2) (length b)) [ true ↦ word16 b i | false ↦ 0 ]

-- the number of 32 bits, and of 64
unfoldable pub double_at : List ℕ → ℕ → ℕ
double_at b i = word_at b i + 65536 * word_at b (i + 2)

unfoldable pub long_at : List ℕ → ℕ → ℕ
long_at b i = double_at b i + 4294967296 * double_at b (i + 4)

-- all words that the bytes have, and the first k long numbers
unfoldable pub words_in : List ℕ → List ℕ
words_in b = map (λ i. word_at b (2 * i)) (upto (length b / 2))

unfoldable pub longs_in : ℕ → List ℕ → List ℕ
longs_in k b = map (λ i. long_at b (8 * i)) (upto k)
