-- Two tables compared (document 02, request (xi)): the table of pairs of their states, the refusals in their order, and the answer. Assumes nothing.
use Rattle.std.specs.Prelude.{Bool, true, false, ◌&&◌, ◌||◌, not, Result, List, [], ◌∷◌, map, ℕ, suc, ◌+◌, ◌*◌, ◌/◌, ◌%◌, length, get_or, take, eqb}
use Rattle.lists.specs.Lists.{any, all, filter, concat_map, upto, same, first_failed, stage, Says}
use Rattle.lists.specs.Bits.{has}
use Rattle.limits.specs.Limits.{standard}
use Rattle.refusals.specs.declared.Refusal.{Refusal}
use Rattle.refusals.specs.Refusals.{answered, number_in, values_in}
use Rattle.table_spec.specs.File.{Table, table_of}
use Rattle.table_spec.specs.Reading.{is_initial, is_accepting, read_number}
use Rattle.table_spec.specs.Language.{count, byte_of, targets}
use Rattle.script_spec.specs.Script.{yes_values}
use Rattle.tops_spec.specs.Tops.{top_words_at}
use Rattle.quotient_spec.specs.Quotient.{bit_of}

-- ---- the pairs: a state p of the first with a state b of the second, or with n, the number past its states, once it has no move

-- the number of a pair, and the pair of a number
abbrev pub pair_of : ℕ → ℕ → ℕ → ℕ
pair_of n p b = p * suc n + b

abbrev pub first_of : ℕ → ℕ → ℕ
first_of n u = u / suc n

abbrev pub second_of : ℕ → ℕ → ℕ
second_of n u = u % suc n

-- how many there are: at most 600
abbrev pub pair_count : Table → Table → ℕ
pair_count s t = count s * suc (count t)

-- the target of the first record that starts with the key; n where there is none, and for n, which no record names
unfoldable pub after : List (List ℕ) → ℕ → List ℕ → ℕ
after ss n key = get_or (targets ss key) 0 n

-- the first table moves by r, the second from b by the same symbol
unfoldable pub pair_move : ℕ → List (List ℕ) → List ℕ → ℕ → List ℕ
pair_move n ss r b = pair_of n (get_or r 0 0) b ∷ get_or r 1 0 ∷ pair_of n (get_or r 2 0) (after ss n (b ∷ get_or r 1 0 ∷ [])) ∷ []

unfoldable pub pair_moves : ℕ → List (List ℕ) → List (List ℕ) → List (List ℕ)
pair_moves n rs ss = concat_map (λ r. map (pair_move n ss r) (upto (suc n))) rs

-- the same for returns, which pop a pair
unfoldable pub pair_return : ℕ → List (List ℕ) → List ℕ → ℕ → ℕ → List ℕ
pair_return n ss r b c = pair_of n (get_or r 0 0) b ∷ get_or r 1 0 ∷ pair_of n (get_or r 2 0) c ∷ pair_of n (get_or r 3 0) (after ss n (b ∷ get_or r 1 0 ∷ c ∷ [])) ∷ []

unfoldable pub pair_returns : ℕ → List (List ℕ) → List (List ℕ) → List (List ℕ)
pair_returns n rs ss = concat_map (λ r. concat_map (λ b. map (pair_return n ss r b) (upto (suc n))) (upto (suc n))) rs

-- a pair is initial where both are, and accepting where the first is and the second is not; "Marks are ignored."
unfoldable pub pair_byte : ℕ → ℕ → ℕ
pair_byte x y = bit_of (is_initial x && is_initial y) + 2 * bit_of (is_accepting x && not (is_accepting y))

unfoldable pub pair_table : Table → Table → Table
pair_table s t =
    record {
      version = 1;
      symbols = s.symbols;
      states = map (λ u. pair_byte (byte_of s (first_of (count t) u)) (byte_of t (second_of (count t) u))) (upto (pair_count s t));
      internals = pair_moves (count t) s.internals t.internals;
      calls = pair_moves (count t) s.calls t.calls;
      returns = pair_returns (count t) s.returns t.returns;
    }

-- ---- "does the second accept every word of the first?"

-- some accepting state of the table has bottom among its tops f: by (iv) a word ends "on the empty stack"
unfoldable pub ends : ℕ → Table → List ℕ → Bool
ends bottom t f = any (λ u. is_accepting (byte_of t u) && has f u bottom) (upto (count t))

-- the tops of the pairs, exact as those of any table (tops)
abbrev pub pair_tops : Table → Table → List ℕ
pair_tops s t = top_words_at (pair_count s t) (pair_table s t)

-- no pair that accepts is reached on the empty stack
unfoldable pub fits : Table → Table → Bool
fits s t = not (ends (pair_count s t) (pair_table s t) (pair_tops s t))

-- ---- the refusals

-- "at most one target for a move": no two records of one section differ in their target alone, which stands after w bytes
unfoldable pub one_target : ℕ → List (List ℕ) → Bool
one_target w rs = all (λ r. all (λ s. not (same (take w r) (take w s)) || same r s) rs) rs

-- "one initial state"
unfoldable pub one_initial : Table → Bool
one_initial t = eqb (length (filter is_initial t.states)) 1

-- 38: "a second table with a choice"; by the file, dead returns too
unfoldable pub no_choice : Table → Bool
no_choice t = one_initial t && one_target 2 t.internals && one_target 2 t.calls && one_target 3 t.returns

-- 37: "symbols that differ"
unfoldable pub same_symbols : Table → Table → Bool
same_symbols s t = same s.symbols t.symbols

-- "the first table's refusals, the second's, then 37 for symbols that differ, 38 for a second table with a choice"; or 0.
-- By (xiii) it "stays at 24 and 32 and reads both its tables at them"
unfoldable pub fit_number : List ℕ → List ℕ → ℕ
fit_number b c =
    first_failed
    (stage (read_number standard b)
    ∷ stage (read_number standard c)
    ∷ (37, same_symbols (table_of b) (table_of c))
    ∷ (38, no_choice (table_of c))
    ∷ [])

-- ---- the operation: no buffer is lent for writing

unfoldable pub fit_of : List ℕ → List ℕ → Result Bool Refusal
fit_of b c = answered (fit_number b c) (fits (table_of b) (table_of c))

-- the answer by its number and its value: 1 for yes, 0 for no
abbrev pub FitSays : List ℕ → List ℕ → Result Bool Refusal → Type 0
FitSays b c r = Says (number_in r) (values_in yes_values r) (fit_number b c) ((elim (fits (table_of b) (table_of c)) [ true ↦ 1 | false ↦ 0 ]) ∷ [])
