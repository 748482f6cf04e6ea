-- What the use counts promise (document 02, request (vii)): "Summing by state, by class, or over the lines in another order gives the same
-- totals, and the class sums make the grand total." Assumes nothing.
use Rattle.std.specs.Prelude.{◌≡◌, Result, ℕ, ◌*◌, ◌<◌, ◌≤◌, length, get_or, take, eqb}
use mathlib.Core.List.{List, map, Permᴰ}
use Rattle.lists.specs.Lists.{filter, upto, sum}
use Rattle.limits.specs.declared.Limits.{Limits}
use Rattle.refusals.specs.declared.Refusal.{Refusal}
use Rattle.refusals.specs.Refusals.{number_in, values_in}
use Rattle.limits.specs.Limits.{state_most}
use Rattle.table_spec.specs.File.{table_of}
use Rattle.table_spec.specs.Language.{count}
use Rattle.table_spec.specs.Maps.{class_of, classes}
use Rattle.uses_spec.specs.declared.Counted.{Counted}
use Rattle.uses_spec.specs.Uses.{lines_of, state_sum, uses_of, counted_values}

-- "over the lines in another order": bytes with the same lines in any order have this answer, refused or not
abbrev pub AnyOrder : Limits → List ℕ → List ℕ → List ℕ → Result Counted Refusal → Type 0
AnyOrder L b m s r = (other : List ℕ) → length other ≡ length s → Permᴰ (lines_of s) (lines_of other) → uses_of L b m other ≡ r

-- "Summing by state": a class has the sums of its states, and the total is that of all states
pub record ByStates (b m s : List ℕ) (r : Counted) : Type 0 where
  pub classes : (c : ℕ) → c < state_most → get_or r.sums c 0 ≡ sum (map (state_sum (lines_of s)) (filter (λ q. eqb (class_of m q) c) (upto (count (table_of b)))))
  pub total : r.total ≡ sum (map (state_sum (lines_of s)) (upto (count (table_of b))))

-- "zero past the class count"
abbrev pub ZeroPast : List ℕ → Counted → Type 0
ZeroPast m r = (c : ℕ) → classes m ≤ c → get_or r.sums c 0 ≡ 0

-- "in 64 bits": no sum wraps, for the total is that of at most 65,536 counts of 32 bits, and no sum is above it
pub record Fits (r : Counted) : Type 0 where
  pub total : r.total ≤ 65536 * 4294967295
  pub sums : (c : ℕ) → get_or r.sums c 0 ≤ r.total

-- "the class sums make the grand total"
abbrev pub MakeTotal : Counted → Type 0
MakeTotal r = sum r.sums ≡ r.total

-- the sums and the total that an answer's values are
abbrev pub counted_in : List ℕ → Counted
counted_in vs = record { sums = take state_most vs; total = get_or vs state_most 0 }

-- what is said of them, where nothing is refused: the answer's number is 0
abbrev pub OnCounted : Result Counted Refusal → (Counted → Type 0) → Type 0
OnCounted r P = number_in r ≡ 0 → P (counted_in (values_in counted_values r))

-- all of it, of one answer: the order of the lines never matters, the rest holds where nothing is refused
pub record Promises (L : Limits) (b m s : List ℕ) (r : Result Counted Refusal) : Type 0 where
  pub order : AnyOrder L b m s r
  pub states : OnCounted r (ByStates b m s)
  pub total : OnCounted r MakeTotal
  pub past : OnCounted r (ZeroPast m)
  pub fits : OnCounted r Fits
