-- (i) by what the first state of each class has. Assumes nothing.
use mathlib.Core.Path.{◌≡◌, refl, sym, ap, ◌∙◌, subst}
use mathlib.Core.Logic.{◌≢◌}
use mathlib.Core.Bool.{true, false}
use mathlib.Core.List.{List}
use Rattle.std.proofs.Common.{Option, Some, None}
use Prim.Native.Nat.{ℕ, zero, suc, ◌+◌, ◌<◌, ◌≤◌}
use native.Mathlib.Omega.{arith}
use native.Mathlib.Decide.{ℕ_discrete}
use lib.ListN.{length, get_or, set, replicate, length-set, length-replicate}
use lib.Seq.{get_or-set_same, get_or-set_other}
use borrow.Author.Tests.{eqb-true, eq-eqb}
use Rattle.lists.specs.Lists.{upto}
use Rattle.lists.proofs.Members.{all_true, all_of, upto-mem, upto_of, gives, gives_of, not_so, zeros}
use Rattle.table_spec.specs.File.{of_states}
use Rattle.table_spec.specs.Language.{agreed_on}
use Rattle.table_spec.specs.Maps.{class_of, joins}
use Rattle.check_spec.specs.Check.{labels_agree}

-- what a state has
abbrev pub look_of : List ℕ → ℕ → ℕ
look_of states q = agreed_on (get_or states q 0)

some-same : {x y : ℕ} → ◌≡◌ {A = Option ℕ} (Some x) (Some y) → x ≡ y
some-same e = cc

none-some : {x : ℕ} → ◌≡◌ {A = Option ℕ} None (Some x) → ⊥
none-some e = cc

nothing : (n k : ℕ) → ◌≡◌ {A = Option ℕ} (get_or (replicate n None) k None) None
nothing zero k = refl
nothing (suc n) zero = refl
nothing (suc n) (suc k) = nothing n k

-- the states before q agree, and what they have is kept by their classes and by no other
pub record Looking (states m : List ℕ) (looks : List (Option ℕ)) (q : ℕ) : Type 0 where
  pub long : length looks ≡ 256
  pub kept : (p : ℕ) → p < q → get_or looks (class_of m p) None ≡ Some (look_of states p)
  pub first : (c v : ℕ) → get_or looks c None ≡ Some v → (p : ℕ) × (p < q) × (class_of m p ≡ c)

pub looking : (states m : List ℕ) → Looking states m (replicate 256 None) 0
looking states m = record { long = length-replicate {A = Option ℕ} 256 None; kept = λ p l. absurd (omega arith); first = λ c v e. absurd (none-some (sym (nothing 256 c) ∙ e)) }

module _ {states m : List ℕ} {looks : List (Option ℕ)} {q : ℕ} (g : Looking states m looks q) where
  -- a state whose class has one is kept by it already
  pub look_on : get_or looks (class_of m q) None ≡ Some (look_of states q) → Looking states m looks (q + 1)
  look_on e = record { long = g.long; kept = λ p l. go p l (ℕ_discrete p q); first = λ c v n. let t = g.first c v n in (t.0, omega (arith, t.1), t.2) }
    where
      go : (p : ℕ) → p < q + 1 → Dec (p ≡ q) → get_or looks (class_of m p) None ≡ Some (look_of states p)
      go p l (yes d) = subst (λ (x : ℕ). get_or looks (class_of m x) None ≡ Some (look_of states x)) (sym d) e
      go p l (no d) = g.kept p (omega arith)

  -- the first of its class
  pub look_first : {c v : ℕ} → c ≡ class_of m q → c < 256 → get_or looks c None ≡ None → v ≡ look_of states q → Looking states m (set looks c (Some v)) (q + 1)
  look_first {c} {v} d l z e = record { long = length-set looks c (Some v) ∙ g.long; kept = λ p k. go p k (ℕ_discrete p q); first = λ x w n. there x w n (ℕ_discrete x c) }
    where
      here : get_or (set looks c (Some v)) c None ≡ Some v
      here = get_or-set_same looks c (Some v) None (omega (arith, g.long))

      apart : (p : ℕ) → p < q → class_of m p ≢ c
      apart p k x = none-some (sym z ∙ ap (λ (i : ℕ). get_or looks i None) (sym x) ∙ g.kept p k)

      go : (p : ℕ) → p < q + 1 → Dec (p ≡ q) → get_or (set looks c (Some v)) (class_of m p) None ≡ Some (look_of states p)
      go p k (yes x) = subst (λ (y : ℕ). get_or (set looks c (Some v)) (class_of m y) None ≡ Some (look_of states y)) (sym x) (ap (λ (i : ℕ). get_or (set looks c (Some v)) i None) (sym d) ∙ here ∙ ap (λ (y : ℕ). Some y) e)
      go p k (no x) = let h : p < q = omega arith in get_or-set_other looks c (class_of m p) (Some v) None (apart p h) ∙ g.kept p h

      there : (x w : ℕ) → get_or (set looks c (Some v)) x None ≡ Some w → Dec (x ≡ c) → (p : ℕ) × (p < q + 1) × (class_of m p ≡ x)
      there x w n (yes y) = (q, omega arith, sym d ∙ sym y)
      there x w n (no y) = let t = g.first x w (sym (get_or-set_other looks c x (Some v) None y) ∙ n) in (t.0, omega (arith, t.1), t.2)

  -- a state that does not agree with the first of its class
  pub looks_differ : {held : ℕ} → q < length states → get_or looks (class_of m q) None ≡ Some held → held ≢ look_of states q → false ≡ labels_agree (of_states states) m
  unfolding labels_agree joins
  looks_differ {held} l n d = sym (not_so _ (λ h. go h (g.first (class_of m q) held n)))
    where
      go : labels_agree (of_states states) m ≡ true → (p : ℕ) × (p < q) × (class_of m p ≡ class_of m q) → ⊥
      go h (p, k, e) =
          let t = all_true _ (upto (length states)) (all_true _ (upto (length states)) h p (upto_of _ p (omega arith))) q (upto_of _ q l) in
          let s = eqb-true (agreed_on (get_or states p 0)) (agreed_on (get_or states q 0)) (gives (joins m p q) _ t (eq-eqb (class_of m p) (class_of m q) e)) in
          d (some-same (sym n ∙ ap (λ (i : ℕ). get_or looks i None) (sym e) ∙ g.kept p k) ∙ s)

  pub looks_alike : length states ≤ q → true ≡ labels_agree (of_states states) m
  unfolding labels_agree joins
  looks_alike l = sym (all_of _ (upto (length states)) (λ p h. all_of _ (upto (length states)) (λ r k. gives_of (joins m p r) _ (λ j. eq-eqb (agreed_on (get_or states p 0)) (agreed_on (get_or states r 0)) (one p r (upto-mem _ p h) (upto-mem _ r k) (eqb-true (class_of m p) (class_of m r) j))))))
    where
      one : (p r : ℕ) → p < length states → r < length states → class_of m p ≡ class_of m r → agreed_on (get_or states p 0) ≡ agreed_on (get_or states r 0)
      one p r h k e = some-same (sym (g.kept p (omega arith)) ∙ ap (λ (i : ℕ). get_or looks i None) e ∙ g.kept r (omega arith))
