-- What the answer of the comparison is worth (document 02, request (xi)): words are accepted as by (iv), on the empty stack. Assumes nothing.
use Rattle.std.specs.Prelude.{◌≡◌, ◌↔◌, Bool, Result, List, [], ◌∷◌, ℕ}
use Rattle.lists.specs.Lists.{Says, OnValues}
use Rattle.limits.specs.declared.Limits.{Limits}
use Rattle.refusals.specs.declared.Refusal.{Refusal}
use Rattle.refusals.specs.Refusals.{number_in, values_in}
use Rattle.table_spec.specs.File.{Table}
use Rattle.table_spec.specs.Language.{automaton, OneTarget, AcceptsWord}
use Rattle.script_spec.specs.Script.{yes_values}
use Rattle.check_spec.specs.Check.{check_number}
use Rattle.quotient_spec.specs.Quotient.{quotient_bytes}
use Rattle.fit_spec.specs.Fit.{fit_of}

-- where nothing is refused, of the value: 1 for yes, 0 for no
abbrev pub OnFitting : Result Bool Refusal → (ℕ → Type 0) → Type 0
OnFitting r P = OnValues (number_in r) (values_in yes_values r) (λ v. P (v 0))

-- the answer is yes
abbrev pub IsYes : Result Bool Refusal → Type 0
IsYes r = Says (number_in r) (values_in yes_values r) 0 (1 ∷ [])

-- "The second has one initial state and at most one target for a move."
pub record WithoutChoice (t : Table) : Type 0 where
  pub initial : ℕ
  pub initially : (automaton t).initial initial
  pub only : (q : ℕ) → (automaton t).initial q → q ≡ initial
  pub targets : OneTarget t

-- a word that is "accepted by the first and not by the second"
pub record Apart (b c : List ℕ) : Type 0 where
  pub word : List ℕ
  pub accepted : AcceptsWord b word
  pub missed : ¬ AcceptsWord c word

-- "The answer is yes exactly when no word under (iv) is accepted by the first and not by the second", where nothing is refused; with yes
-- the second accepts every word of the first
pub record YesExactly (b c : List ℕ) (r : Result Bool Refusal) : Type 0 where
  pub exactly : OnFitting r (λ y. (y ≡ 1) ↔ (¬ Apart b c))
  pub every : OnFitting r (λ y. y ≡ 1 → (w : List ℕ) → AcceptsWord b w → AcceptsWord c w)

-- with no there is such a word
abbrev pub NoApart : List ℕ → List ℕ → Result Bool Refusal → Type 0
NoApart b c r = OnFitting r (λ y. y ≡ 0 → Apart b c)

-- "A table fits its own quotient, where the operation takes both", and the quotient fits its table: for every map that the check accepts, at
-- whatever limits
pub record FitsQuotient (b c : List ℕ) (r : Result Bool Refusal) : Type 0 where
  pub quotient : (L : Limits) (m : List ℕ) → check_number L b m ≡ 0 → c ≡ quotient_bytes b m → OnFitting r (λ y. y ≡ 1)
  pub back : (L : Limits) (m : List ℕ) → check_number L c m ≡ 0 → b ≡ quotient_bytes c m → OnFitting r (λ y. y ≡ 1)

-- "Fitting is transitive where all the comparisons are permitted": two that say yes permit the third
abbrev pub FitsOn : List ℕ → List ℕ → Result Bool Refusal → Type 0
FitsOn b c r = (d : List ℕ) → IsYes r → IsYes (fit_of c d) → IsYes (fit_of b d)
