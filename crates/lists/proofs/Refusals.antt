-- What it says that no test of a list of refusals fails; an answer by its number. Assumes nothing.
use mathlib.Core.Path.{◌≡◌, refl, sym, ◌∙◌}
use mathlib.Core.Logic.{◌≢◌}
use mathlib.Core.Bool.{Bool, true, false}
use mathlib.Core.List.{List, [], ◌∷◌}
use Prim.Native.Nat.{ℕ, ◌≤◌, zero-le}
use native.Mathlib.Decide.{ℕ_discrete}
use lib.ListN.{get_or}
use lib.Dec.{eqb}
use borrow.Author.Tests.{eqb-true, eqb-false, eq-eqb, ne_eqb}
use Rattle.lists.specs.Lists.{first_failed, stage, Says, OnValues}

-- where none fails, the first passes and none of the others fails
pub passed : (k : ℕ) (t : Bool) (ts : List (ℕ × Bool)) → k ≢ 0 → first_failed ((k, t) ∷ ts) ≡ 0 → (t ≡ true) × (first_failed ts ≡ 0)
unfolding first_failed
passed k true ts n e = (refl, e)
passed k false ts n e = absurd (n e)

pub passes : (k : ℕ) {t : Bool} (ts : List (ℕ × Bool)) → t ≡ true → first_failed ((k, t) ∷ ts) ≡ first_failed ts
unfolding first_failed
passes k ts p = rw (p, first_failed)

pub fails : (k : ℕ) {t : Bool} (ts : List (ℕ × Bool)) → t ≡ false → first_failed ((k, t) ∷ ts) ≡ k
unfolding first_failed
fails k ts p = rw (p, first_failed)

-- the number given is one of the numbers listed, or 0
pub failed_within : (n k : ℕ) (t : Bool) (ts : List (ℕ × Bool)) → k ≤ n → first_failed ts ≤ n → first_failed ((k, t) ∷ ts) ≤ n
unfolding first_failed
failed_within n k true ts h r = r
failed_within n k false ts h r = h

pub no_test : first_failed [] ≡ 0
unfolding first_failed
no_test = refl

pub none_failed : (n : ℕ) → first_failed [] ≤ n
unfolding first_failed
none_failed n = zero-le

-- ---- after an earlier stage, whose number is k

module _ (k : ℕ) (ts : List (ℕ × Bool)) where
  pub stage-passes : k ≡ 0 → first_failed (stage k ∷ ts) ≡ first_failed ts
  stage-passes z = passes k ts (eq-eqb k 0 z)

  pub stage_fails : {j : ℕ} → k ≡ j → j ≢ 0 → first_failed (stage k ∷ ts) ≡ j
  stage_fails e n = fails k ts (ne_eqb k 0 (λ z. n (sym e ∙ z))) ∙ e

  pub stage-passed : first_failed (stage k ∷ ts) ≡ 0 → (k ≡ 0) × (first_failed ts ≡ 0)
  unfolding first_failed
  stage-passed e = go (eqb k 0) refl e
    where
      go : (t : Bool) → eqb k 0 ≡ t → first_failed ((k, t) ∷ ts) ≡ 0 → (k ≡ 0) × (first_failed ts ≡ 0)
      go true p f = (eqb-true k 0 p, f)
      go false p f = absurd (eqb-false k 0 p f)

-- with nothing after it, the stage's number is the first
pub last-stage : (k : ℕ) → first_failed (stage k ∷ []) ≡ k
last-stage k = go (ℕ_discrete k 0)
  where
    go : Dec (k ≡ 0) → first_failed (stage k ∷ []) ≡ k
    go (yes z) = stage-passes k [] z ∙ no_test ∙ sym z
    go (no n) = stage_fails k [] refl n

-- ---- an answer by its number k: x where that is 0, else a refusal

module _ {A : Type 0} (k : ℕ) (x : A) where
  pub not_refused : (y : A) → k ≡ 0 → x ≡ (elim (eqb k 0) as (λ _. A) [ true ↦ x | false ↦ y ])
  not_refused y z = sym (rw (eq-eqb k 0 z))

  pub refuses : (refusal : ℕ → A) {j : ℕ} → k ≡ j → j ≢ 0 → refusal j ≡ (elim (eqb k 0) as (λ _. A) [ true ↦ x | false ↦ refusal k ])
  refuses refusal e n = sym (rw (ne_eqb k 0 (λ z. n (sym e ∙ z))) (λ i. refusal (e i)))

  -- what holds of both holds of the answer
  pub by_number : (y : A) (P : A → Type 0) → (k ≡ 0 → P x) → (k ≢ 0 → P y) → P (elim (eqb k 0) as (λ _. A) [ true ↦ x | false ↦ y ])
  by_number y P f g = go (eqb k 0) refl
    where
      go : (t : Bool) → eqb k 0 ≡ t → P (elim t as (λ _. A) [ true ↦ x | false ↦ y ])
      go true p = f (eqb-true k 0 p)
      go false p = g (eqb-false k 0 p)

-- ---- what an answer says by its number and its values

pub told_says : {k : ℕ} (listed : List ℕ) → k ≡ 0 → Says 0 listed k listed
told_says {k} listed z = record { numbered = sym z; valued = not_refused k listed [] z }

pub refused_says : {j k : ℕ} (listed : List ℕ) → k ≡ j → j ≢ 0 → Says j [] k listed
refused_says {j} {k} listed e n = record { numbered = sym e; valued = refuses k listed (λ _. []) e n }

-- an answer that is made by its number
pub says : {A : Type 0} (k : ℕ) (x y : A) (number : A → ℕ) (values : A → List ℕ) {listed : List ℕ} → number x ≡ 0 → values x ≡ listed → (k ≢ 0 → number y ≡ k) → values y ≡ []
    → (let r : A = elim (eqb k 0) as (λ _. A) [ true ↦ x | false ↦ y ] in Says (number r) (values r) k listed)
says k x y number values {listed} e f g h = by_number k x y (λ r. Says (number r) (values r) k listed) (λ z. rw (e, f) (told_says listed z)) (λ n. rw (g n, h) (refused_says listed refl n))

-- of an answer that is not refused: so nothing is, and the values are those listed
pub said : {number k : ℕ} {values listed : List ℕ} → Says number values k listed → number ≡ 0 → (k ≡ 0) × (values ≡ listed)
said {number} {k} {values} {listed} s e = let z : k ≡ 0 = sym s.numbered ∙ e in (z, s.valued ∙ sym (not_refused k listed [] z))

-- what holds of the values of x, where the number is 0, is said of the answer
pub on_values : {A : Type 0} (k : ℕ) (x y : A) (number : A → ℕ) (values : A → List ℕ) (P : A → (ℕ → ℕ) → Type 0) → (k ≡ 0 → P x (λ i. get_or (values x) i 0)) → (k ≢ 0 → number y ≢ 0)
    → (let r : A = elim (eqb k 0) as (λ _. A) [ true ↦ x | false ↦ y ] in OnValues (number r) (values r) (P r))
on_values k x y number values P h e = by_number k x y (λ r. OnValues (number r) (values r) (P r)) (λ z _. h z) (λ n f. absurd (e n f))
