-- Refusals and their numbers: which numbers are known, and answers that are made by a number. Assumes nothing.
use mathlib.Core.Path.{◌≡◌, refl, sym, ap, ◌∙◌}
use mathlib.Core.Logic.{◌≢◌}
use mathlib.Core.Bool.{Bool, true, false}
use mathlib.Core.List.{List, [], ◌∷◌}
use Prim.Native.Nat.{ℕ}
use native.Mathlib.Omega.{arith}
use lib.Dec.{eqb}
use Rattle.std.specs.Prelude.{Result, Ok, Err}
use Rattle.std.specs.Result.{IsErr, IsErrAnd}
use Rattle.std.proofs.lemmas.Result.{err_from_is_err_and}
use Rattle.lists.specs.Lists.{first_failed, Says}
use Rattle.lists.proofs.Refusals.{by_number, not_refused, refuses, says}
use Rattle.refusals.specs.declared.Refusal.{Refusal}
use Rattle.refusals.specs.declared.Refusal.TheVariants.{Length, Version, Distances, Counts, Bytes, NoInitial, Records, Order, ListLength, ListForm, NoneExists, Spent, AnswerLength, MapLength, Numbering, Disagreement, InternalUnmatched, CallUnmatched, ReturnUnmatched, OutputLength, MapRoom, ScriptSymbol, OpenCalls, Lines, LineState, Lengths, Load, LoadRecords, Symbols, Choices, LimitsRange, NeitherMap}
use Rattle.refusals.specs.Refusals.{number_of, every, first_with, refusal, Known, answered, number_in, values_in}

-- no refusal has the number 0
pub some_number : (r : Refusal) → number_of r ≢ 0
some_number Length e = absurd (omega arith)
some_number Version e = absurd (omega arith)
some_number Distances e = absurd (omega arith)
some_number Counts e = absurd (omega arith)
some_number Bytes e = absurd (omega arith)
some_number NoInitial e = absurd (omega arith)
some_number Records e = absurd (omega arith)
some_number Order e = absurd (omega arith)
some_number ListLength e = absurd (omega arith)
some_number ListForm e = absurd (omega arith)
some_number NoneExists e = absurd (omega arith)
some_number Spent e = absurd (omega arith)
some_number AnswerLength e = absurd (omega arith)
some_number MapLength e = absurd (omega arith)
some_number Numbering e = absurd (omega arith)
some_number Disagreement e = absurd (omega arith)
some_number InternalUnmatched e = absurd (omega arith)
some_number CallUnmatched e = absurd (omega arith)
some_number ReturnUnmatched e = absurd (omega arith)
some_number OutputLength e = absurd (omega arith)
some_number MapRoom e = absurd (omega arith)
some_number ScriptSymbol e = absurd (omega arith)
some_number OpenCalls e = absurd (omega arith)
some_number Lines e = absurd (omega arith)
some_number LineState e = absurd (omega arith)
some_number Lengths e = absurd (omega arith)
some_number Load e = absurd (omega arith)
some_number LoadRecords e = absurd (omega arith)
some_number Symbols e = absurd (omega arith)
some_number Choices e = absurd (omega arith)
some_number LimitsRange e = absurd (omega arith)
some_number NeitherMap e = absurd (omega arith)

-- each refusal is that of its number
pub own_number : (r : Refusal) → refusal (number_of r) ≡ r
unfolding every first_with refusal
own_number Length = refl
own_number Version = refl
own_number Distances = refl
own_number Counts = refl
own_number Bytes = refl
own_number NoInitial = refl
own_number Records = refl
own_number Order = refl
own_number ListLength = refl
own_number ListForm = refl
own_number NoneExists = refl
own_number Spent = refl
own_number AnswerLength = refl
own_number MapLength = refl
own_number Numbering = refl
own_number Disagreement = refl
own_number InternalUnmatched = refl
own_number CallUnmatched = refl
own_number ReturnUnmatched = refl
own_number OutputLength = refl
own_number MapRoom = refl
own_number ScriptSymbol = refl
own_number OpenCalls = refl
own_number Lines = refl
own_number LineState = refl
own_number Lengths = refl
own_number Load = refl
own_number LoadRecords = refl
own_number Symbols = refl
own_number Choices = refl
own_number LimitsRange = refl
own_number NeitherMap = refl

-- ---- which numbers are known

pub none_known : Known (first_failed [])
unfolding first_failed
none_known n = absurd (n refl)

pub known_of : (r : Refusal) → Known (number_of r)
known_of r n = ap number_of (own_number r)

-- the number of the first test that fails, where all numbers listed are known
pub failed_known : {k : ℕ} (t : Bool) (ts : List (ℕ × Bool)) → Known k → Known (first_failed ts) → Known (first_failed ((k, t) ∷ ts))
unfolding first_failed
failed_known {k} t ts h r = go t
  where
    go : (t : Bool) → Known (first_failed ((k, t) ∷ ts))
    go true = r
    go false = h

-- ---- the answer of a call by its number

-- an answer of any form
pub refuses_by : {A : Type 0} (form : Refusal → A) (x : A) {k : ℕ} {r : Refusal} → k ≡ number_of r → form r ≡ (elim (eqb k 0) as (λ _. A) [ true ↦ x | false ↦ form (refusal k) ])
refuses_by form x {k} {r} e = ap form (sym (own_number r)) ∙ refuses k x (λ j. form (refusal j)) e (some_number r)

module _ {A : Type 0} where
  pub refused_by : {k : ℕ} (x : A) {r : Refusal} → k ≡ number_of r → Err r ≡ answered k x
  refused_by x e = refuses_by {A = Result A Refusal} (λ r. Err r) (Ok x) e

  -- whatever its number is
  pub refused_at : {k : ℕ} (x : A) → k ≢ 0 → Err (refusal k) ≡ answered k x
  refused_at {k} x n = refuses {A = Result A Refusal} k (Ok x) (λ j. Err (refusal j)) refl n

  pub ok_by : {k : ℕ} (x : A) → k ≡ 0 → Ok x ≡ answered k x
  ok_by {k} x z = not_refused {A = Result A Refusal} k (Ok x) (Err (refusal k)) z

  -- what an answer tells of its number
  pub was_ok : {k : ℕ} (x : A) {y : A} → answered k x ≡ Ok y → (k ≡ 0) × (y ≡ x)
  was_ok {k} x {y} e = by_number {A = Result A Refusal} k (Ok x) (Err (refusal k)) (λ r. r ≡ Ok y → (k ≡ 0) × (y ≡ x)) (λ z q. (z, cc)) (λ n q. cc) e

  pub was_refused : {k : ℕ} (x : A) {r : Refusal} → Known k → answered k x ≡ Err r → k ≡ number_of r
  was_refused {k} x {r} h e = by_number {A = Result A Refusal} k (Ok x) (Err (refusal k)) (λ s. s ≡ Err r → k ≡ number_of r) (λ z q. cc) (λ n q. sym (h n) ∙ ap number_of (of_err q)) e
    where
      of_err : ◌≡◌ {A = Result A Refusal} (Err (refusal k)) (Err r) → refusal k ≡ r
      of_err q = cc

  -- what it says by its number and its values
  pub answered_says : {k : ℕ} (x : A) (values : A → List ℕ) → Known k → (let r : Result A Refusal = answered k x in Says (number_in r) (values_in values r) k (values x))
  answered_says {k} x values h = says {A = Result A Refusal} k (Ok x) (Err (refusal k)) number_in (values_in values) refl refl h refl

-- ---- a refusal that is passed up

pub passed_up : {A : Type 0} {r : Refusal} {x : Result A Refusal} → IsErr x × IsErrAnd x (λ s. s ≡ r) → x ≡ Err r
passed_up {A} {r} {x} e = let p = err_from_is_err_and x e.1 in p.1 ∙ ap {B = Result A Refusal} (λ s. Err s) p.2
