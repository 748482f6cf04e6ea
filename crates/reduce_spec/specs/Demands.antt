-- What a delivery promises (demand 3, requests (i), (iv), (v), (viii) and (xii)), over the lent bytes and what is written. Assumes nothing.
use Rattle.std.specs.Prelude.{◌≡◌, Result, List, ℕ, ◌-◌, ◌*◌, ◌/◌, ◌≤◌, take}
use Rattle.lists.specs.Lists.{OnValues}
use Rattle.cnf.specs.Search.{solved, spent, made_of, is_spent}
use Rattle.limits.specs.declared.Limits.{Limits}
use Rattle.refusals.specs.declared.Refusal.{Refusal}
use Rattle.refusals.specs.Refusals.{number_in, values_in}
use Rattle.table_spec.specs.File.{table_of}
use Rattle.table_spec.specs.Language.{count, SameWords, SameMarks, OpenByNeither, OneTarget}
use Rattle.table_spec.specs.Maps.{RaqMap, NoneCoarser}
use Rattle.check_spec.specs.Check.{check_of}
use Rattle.check_spec.specs.Demands.{AcceptedWith}
use Rattle.script_spec.specs.Script.{yes_value}
use Rattle.script_spec.specs.Demands.{SameScripts}
use Rattle.quotient_spec.specs.Demands.{IsQuotient, ShowsSteps}
use Rattle.clauses_spec.specs.Maps.{map_of}
use Rattle.reduce_spec.specs.Reduce.{search_of_table, joined_pairs, reduction_values}
use Rattle.reduce_spec.specs.declared.Reduction.{Reduction}

-- P of a delivery's values: class count, guesses, clause words, quotient length, joined pairs, ceiling, and 1 where the budget was spent, else 0; a
-- refusal promises nothing here
abbrev pub OnDelivery : Result Reduction Refusal → (ℕ → ℕ → ℕ → ℕ → ℕ → ℕ → ℕ → Type 0) → Type 0
OnDelivery r P = OnValues (number_in r) (values_in reduction_values r) (λ v. P (v 0) (v 1) (v 2) (v 3) (v 4) (v 5) (v 6))

-- the map that was written: "the first bytes of the map buffer"
abbrev pub map_written : List ℕ → List ℕ → List ℕ
map_written b map = take (count (table_of b)) map

-- "for every word of any length, the written quotient accepts the word exactly when the input does"
abbrev pub KeepsWords : Result Reduction Refusal → List ℕ → List ℕ → Type 0
KeepsWords r b out = OnDelivery r (λ c g w l j u s. SameWords b (take l out))

-- request (v): "For each mark, the words that end on the empty stack in a state of that mark are the same before and after."
abbrev pub KeepsMarks : Result Reduction Refusal → List ℕ → List ℕ → Type 0
KeepsMarks r b out = OnDelivery r (λ c g w l j u s. SameMarks b (take l out))

-- request (iv): "scripts left open are accepted by neither"
abbrev pub DeliversNoneOpen : Result Reduction Refusal → List ℕ → List ℕ → Type 0
DeliversNoneOpen r b out = OnDelivery r (λ c g w l j u s. OpenByNeither b (take l out))

-- request (xii), under the map delivered: "at every step"
abbrev pub DeliversSteps : Result Reduction Refusal → List ℕ → List ℕ → List ℕ → Type 0
DeliversSteps r b map out = OnDelivery r (λ c g w l j u s. ShowsSteps b (map_written b map) (take l out))

-- request (i): "Tables and reduced tables must give one answer to every script read", at the limits in force
abbrev pub KeepsScripts : Limits → Result Reduction Refusal → List ℕ → List ℕ → Type 0
KeepsScripts L r b out = OnDelivery r (λ c g w l j u s. SameScripts L b (take l out))

-- the map delivered is one that the check accepts, with as many classes
abbrev pub DeliversChecked : Limits → Result Reduction Refusal → List ℕ → List ℕ → Type 0
DeliversChecked L r b map = OnDelivery r (λ c g w l j u s. AcceptedWith (check_of L b (map_written b map)) c)

-- "The reduced table is that paper's quotient, without the input's dead returns", under the map delivered
abbrev pub DeliversQuotient : Limits → Result Reduction Refusal → List ℕ → List ℕ → List ℕ → Type 0
DeliversQuotient L r b map out = OnDelivery r (λ c g w l j u s. IsQuotient L b (map_written b map) (take l out))

-- "No map meeting Definition 1 joins all pairs of a delivered map and one more"; "A spent delivery .. makes no maximality claim"
abbrev pub DeliversMaximal : Result Reduction Refusal → List ℕ → List ℕ → Type 0
DeliversMaximal r b map = OnDelivery r (λ c g w l j u s. s ≡ 0 → NoneCoarser (table_of b) (map_written b map))

-- "Where each move has at most one target, no reduction of n states, under any budget, reports more than n(n-1)/2 guesses."
abbrev pub FewGuesses : Result Reduction Refusal → List ℕ → Type 0
FewGuesses r b = OnDelivery r (λ c g w l j u s. OneTarget (table_of b) → g ≤ count (table_of b) * (count (table_of b) - 1) / 2)

-- J is how many pairs the map delivered joins, and "No accepted map joins more than U pairs": none that meets Definition 1
pub record Ceiling (b map : List ℕ) (j u : ℕ) : Type 0 where
  pub joined : j ≡ joined_pairs (count (table_of b)) (map_written b map)
  pub most : (m : List ℕ) → RaqMap (table_of b) m → joined_pairs (count (table_of b)) m ≤ u

abbrev pub DeliversCeiling : Result Reduction Refusal → List ℕ → List ℕ → Type 0
DeliversCeiling r b map = OnDelivery r (λ c g w l j u s. Ceiling b map j u)

-- "Assignment and guess count must equal those over the full list": guesses and spent are those of the search over it
abbrev pub SameSearch : Result Reduction Refusal → List ℕ → ℕ → Type 0
SameSearch r b budget = OnDelivery r (λ c g w l j u s. (g ≡ made_of (search_of_table b budget)) × (s ≡ yes_value (is_spent (search_of_table b budget))))

-- and where that search is solved, the map delivered is that of its assignment
abbrev pub SameAssignment : Result Reduction Refusal → List ℕ → ℕ → List ℕ → Type 0
SameAssignment r b budget map = OnDelivery r (λ c g w l j u s. (v : List ℕ) (k : ℕ) → search_of_table b budget ≡ solved v k → map_written b map ≡ map_of v (count (table_of b)))

-- "A spent delivery says so": it made all guesses of the budget, and that search ends by (d), with a variable unset
abbrev pub SpentSaid : Result Reduction Refusal → List ℕ → ℕ → Type 0
SpentSaid r b budget = OnDelivery r (λ c g w l j u s. s ≡ 1 → (g ≡ budget) × (search_of_table b budget ≡ spent budget))

-- all of it, of one reduction
pub record Promises (L : Limits) (b : List ℕ) (budget : ℕ) (r : Result Reduction Refusal) (map out : List ℕ) : Type 0 where
  pub words : KeepsWords r b out
  pub exact : DeliversQuotient L r b map out
  pub checked : DeliversChecked L r b map
  pub maximal : DeliversMaximal r b map
  pub few : FewGuesses r b
  pub ceiling : DeliversCeiling r b map
  pub same : SameSearch r b budget
  pub found : SameAssignment r b budget map
  pub spent : SpentSaid r b budget
  pub none_open : DeliversNoneOpen r b out
  pub steps : DeliversSteps r b map out
  pub marks : KeepsMarks r b out
  pub scripts : KeepsScripts L r b out
