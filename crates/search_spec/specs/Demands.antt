-- What the search's answer is worth. Assumes nothing.
use Rattle.std.specs.Prelude.{◌≡◌, Result, List, ℕ, ◌≤◌, take}
use Rattle.lists.specs.Lists.{OnValues}
use Rattle.cnf.specs.Clauses.{clauses_in, Model, Maximal, Horn}
use Rattle.refusals.specs.declared.Refusal.{Refusal}
use Rattle.refusals.specs.Refusals.{number_in, one_value, values_in}

-- where an assignment was found, of the guesses made
abbrev pub OnSolved : Result ℕ Refusal → (ℕ → Type 0) → Type 0
OnSolved r P = OnValues (number_in r) (values_in one_value r) (λ v. P (v 0))

-- of clause words, a number of variables, the answer and the answer bytes at exit
pub record SearchSound (list : List ℕ) (variables : ℕ) (r : Result ℕ Refusal) (answer : List ℕ) : Type 0 where
  pub satisfies : OnSolved r (λ k. Model (clauses_in list) variables (take variables answer))
  pub maximal : OnSolved r (λ k. Maximal (clauses_in list) variables (take variables answer))
  pub complete : number_in r ≡ 12 → (a : List ℕ) → Model (clauses_in list) variables a → ⊥
  pub few : Horn (clauses_in list) → OnSolved r (λ k. k ≤ variables)
