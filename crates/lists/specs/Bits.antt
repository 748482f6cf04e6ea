-- Sets of small numbers as words: x is in the word w where bit x of w is 1. Assumes nothing.
use Rattle.std.specs.Prelude.{◌≡◌, Bool, List, [], ◌∷◌, ℕ, ◌+◌, ◌/◌, ◌%◌, ◌^◌, get_or, eqb}
use Rattle.std.specs.Int.Count.{ones_in}

-- bit x of w is 1
abbrev pub Bit : ℕ → ℕ → Type 0
Bit w x = w / 2 ^ x % 2 ≡ 1

-- the same as a test
unfoldable pub has_bit : ℕ → ℕ → Bool
has_bit w x = eqb (w / 2 ^ x % 2) 1

-- bit x of word q
unfoldable pub has : List ℕ → ℕ → ℕ → Bool
has f q x = has_bit (get_or f q 0) x

-- how many of the first k bits are 1, over all the words
unfoldable pub ones_over : ℕ → List ℕ → ℕ
ones_over k [] = 0
ones_over k (w ∷ ws) = ones_in k w + ones_over k ws
