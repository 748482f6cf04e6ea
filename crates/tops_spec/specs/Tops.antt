-- Reachable tops as words, and which returns are live (document 01, "Runs and reachable tops"). Assumes nothing.
use Rattle.std.specs.Prelude.{Bool, true, false, Result, List, [], ◌∷◌, ◌++◌, map, ℕ, zero, suc, ◌-◌, ◌*◌, ◌^◌, get_or, set, replicate, eqb}
use Rattle.std.proofs.Math.Option.{Option, none, some}
use Rattle.std.specs.Int.Bits.{bit_or}
use Rattle.lists.specs.Lists.{filter, same, Says}
use Rattle.lists.specs.Bits.{has, ones_over}
use Rattle.limits.specs.declared.Limits.{Limits}
use Rattle.refusals.specs.declared.Refusal.{Refusal}
use Rattle.refusals.specs.Refusals.{answered, number_in, values_in}
use Rattle.limits.specs.Limits.{state_most}
use Rattle.table_spec.specs.File.{Table, table_of}
use Rattle.table_spec.specs.Reading.{is_initial, read_number}
use Rattle.table_spec.specs.Language.{count}
use Rattle.tops_spec.specs.declared.TopWords.{TopWords}

-- "bottom is a top too": the top that the number t stands for, where bottom has the number m
unfoldable pub top_named : ℕ → ℕ → Option ℕ
top_named m t = elim (eqb t m) [ true ↦ none | false ↦ some t ]

-- word q gains the tops of w
unfoldable pub add : List ℕ → ℕ → ℕ → List ℕ
add f q w = set f q (bit_or (get_or f q 0) w)

-- by an internal (q, a, q') the tops of q are tops of q'
unfoldable pub by_internals : List (List ℕ) → List ℕ → List ℕ
by_internals [] f = f
by_internals (r ∷ rs) f = by_internals rs (add f (get_or r 2 0) (get_or f (get_or r 0 0) 0))

-- by a call (q, a, q') the state q is a top of q', if q has a top
unfoldable pub by_calls : List (List ℕ) → List ℕ → List ℕ
by_calls [] f = f
by_calls (r ∷ rs) f = by_calls rs (elim (eqb (get_or f (get_or r 0 0) 0) 0) [ true ↦ f | false ↦ add f (get_or r 2 0) (2 ^ get_or r 0 0) ])

-- "A return record is live when its stack state is in tops of its state"
unfoldable pub live : List ℕ → List ℕ → Bool
live f r = has f (get_or r 0 0) (get_or r 2 0)

-- by a live return (q, a, s, q') the tops of s are tops of q'
unfoldable pub by_returns : List (List ℕ) → List ℕ → List ℕ
by_returns [] f = f
by_returns (r ∷ rs) f = by_returns rs (elim (live f r) [ true ↦ add f (get_or r 3 0) (get_or f (get_or r 2 0) 0) | false ↦ f ])

-- all records once, in file order
unfoldable pub round : Table → List ℕ → List ℕ
round t f = by_returns t.returns (by_calls t.calls (by_internals t.internals f))

-- rounds until one changes nothing, at most k
unfoldable pub rounds : ℕ → Table → List ℕ → List ℕ
rounds zero t f = f
rounds (suc k) t f = elim (same (round t f) f) [ true ↦ f | false ↦ rounds k t (round t f) ]

-- an initial state has bottom, numbered m
unfoldable pub start_words : ℕ → Table → List ℕ
start_words m t = map (λ byte. elim (is_initial byte) [ true ↦ 2 ^ m | false ↦ 0 ]) t.states

-- "bit t of word q"; "States past the count have the zero word": m words, bottom at bit m; so many rounds are enough (proofs/Exact)
unfoldable pub top_words_at : ℕ → Table → List ℕ
top_words_at m t = rounds (suc (count t * suc (count t))) t (start_words m t) ++ replicate (m - count t) 0

-- "Tops become 40 words of 64 bits with bottom at bit 40", at any limits
abbrev pub top_words : Table → List ℕ
top_words t = top_words_at state_most t

-- "the number of tops found over all states"
unfoldable pub top_count : Table → ℕ
top_count t = ones_over (suc state_most) (top_words t)

-- the operation
unfoldable pub tops_of : Limits → List ℕ → Result TopWords Refusal
tops_of L b = answered (read_number L b) (record { words = top_words (table_of b); found = top_count (table_of b) })

-- an answer's values: the words, then the number of tops found
abbrev pub tops_values : TopWords → List ℕ
tops_values r = r.words ++ (r.found ∷ [])

-- the answer by its number and its values
abbrev pub TopsSays : Limits → List ℕ → Result TopWords Refusal → Type 0
TopsSays L b r = Says (number_in r) (values_in tops_values r) (read_number L b) (top_words (table_of b) ++ (top_count (table_of b) ∷ []))

-- the live returns, in file order
unfoldable pub live_returns : Table → List (List ℕ)
live_returns t = filter (live (top_words t)) t.returns
