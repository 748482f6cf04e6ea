-- How deep a script goes, symbol by symbol: what is still to come of 31. Assumes nothing.
use mathlib.Core.Path.{◌≡◌, refl, sym, ap, ◌∙◌}
use mathlib.Core.Bool.{Bool, true, false, ◌&&◌}
use mathlib.Core.List.{List, ◌∷◌}
use Prim.Native.Nat.{ℕ, suc, ◌+◌, ◌-◌, ◌<◌, ◌≤◌}
use native.Mathlib.Omega.{arith}
use lib.ListN.{length, get_or, drop, drop_of_length-le}
use lib.Dec.{eqb, leb, ltb}
use borrow.Author.Tests.{ltb-true, le-leb, lt-leb, eq-eqb, ne_eqb}
use Rattle.lists.proofs.Members.{get_d_mem, all_true, one_on}
use Rattle.vpa.specs.Automata.{open_behind}
use Rattle.script_spec.specs.Script.{symbols_fit, open_most, too_deep}

-- a symbol of a script to which 30 does not apply
pub symbol-inside : (n : ℕ) (w : List ℕ) → symbols_fit n w ≡ true → (i : ℕ) → i < length w → get_or w i 0 < n
unfolding symbols_fit
symbol-inside n w e i l = ltb-true _ _ (all_true (λ a. ltb a n) w e (get_or w i 0) (get_d_mem w i 0 l))

module _ (kind : ℕ → ℕ) (a : ℕ) (w : List ℕ) (n : ℕ) where
  -- by what the tests give: a return, none open, a call, as many open as may be
  by_tests : Bool → Bool → Bool → Bool → ℕ → Bool
  by_tests r z c d m = elim (r && z) [ true ↦ false | false ↦ elim (c && d) [ true ↦ true | false ↦ too_deep kind m w ] ]

  tests : too_deep kind n (a ∷ w) ≡ by_tests (leb 2 (kind a)) (eqb n 0) (eqb (kind a) 1) (eqb n open_most) (open_behind (kind a) n)
  unfolding too_deep by_tests
  tests = refl

  pub deep_internal : kind a ≡ 0 → too_deep kind n (a ∷ w) ≡ too_deep kind n w
  unfolding by_tests open_behind
  deep_internal e = tests ∙ λ i. by_tests (lt-leb 2 (kind a) (omega arith) i) (eqb n 0) (ne_eqb (kind a) 1 (λ f. omega arith) i) (eqb n open_most) (open_behind (e i) n)

  pub deep_call : kind a ≡ 1 → (n ≡ open_most → ⊥) → too_deep kind n (a ∷ w) ≡ too_deep kind (suc n) w
  unfolding by_tests open_behind
  deep_call e d = tests ∙ λ i. by_tests (lt-leb 2 (kind a) (omega arith) i) (eqb n 0) (eq-eqb (kind a) 1 e i) (ne_eqb n open_most d i) (open_behind (e i) n)

  pub deep_last : kind a ≡ 1 → n ≡ open_most → too_deep kind n (a ∷ w) ≡ true
  unfolding by_tests
  deep_last e d = tests ∙ λ i. by_tests (lt-leb 2 (kind a) (omega arith) i) (eqb n 0) (eq-eqb (kind a) 1 e i) (eq-eqb n open_most d i) (open_behind (kind a) n)

  pub deep_return : {k : ℕ} → kind a ≡ suc (suc k) → (n ≡ 0 → ⊥) → too_deep kind n (a ∷ w) ≡ too_deep kind (n - 1) w
  unfolding by_tests open_behind
  deep_return e d = tests ∙ λ i. by_tests (le-leb 2 (kind a) (omega arith) i) (ne_eqb n 0 d i) (ne_eqb (kind a) 1 (λ f. omega arith) i) (eqb n open_most) (open_behind (e i) n)

  pub deep_end : {k : ℕ} → kind a ≡ suc (suc k) → n ≡ 0 → too_deep kind n (a ∷ w) ≡ false
  unfolding by_tests
  deep_end e d = tests ∙ λ i. by_tests (le-leb 2 (kind a) (omega arith) i) (eq-eqb n 0 d i) (eqb (kind a) 1) (eqb n open_most) (open_behind (kind a) n)

-- i symbols are passed, and n calls are open
pub record Deepening (kind : ℕ → ℕ) (w : List ℕ) (n i : ℕ) : Type 0 where
  pub inside : i ≤ length w
  pub few : n ≤ open_most
  pub meets : too_deep kind 0 w ≡ too_deep kind n (drop i w)

pub deepening : (kind : ℕ → ℕ) (w : List ℕ) → Deepening kind w 0 0
deepening kind w = record { inside = omega arith; few = omega arith; meets = refl }

module _ {kind : ℕ → ℕ} {w : List ℕ} {n i : ℕ} (p : Deepening kind w n i) where
  pub deep_none : length w ≤ i → false ≡ too_deep kind 0 w
  unfolding too_deep
  deep_none l = sym (p.meets ∙ ap (too_deep kind n) (drop_of_length-le w {i = i} l))

  module _ {k : ℕ} (l : i < length w) (e : k ≡ kind (get_or w i 0)) where
    here : too_deep kind 0 w ≡ too_deep kind n (get_or w i 0 ∷ drop (i + 1) w)
    here = p.meets ∙ ap (too_deep kind n) (one_on w i l)

    pub deepen_internal : k ≡ 0 → Deepening kind w n (i + 1)
    deepen_internal z = record { inside = omega arith; few = p.few; meets = here ∙ deep_internal kind (get_or w i 0) (drop (i + 1) w) n (sym e ∙ z) }

    pub deepen_call : k ≡ 1 → (n ≡ open_most → ⊥) → Deepening kind w (n + 1) (i + 1)
    deepen_call z d =
        let m : suc n ≡ n + 1 = omega arith in
        record { inside = omega arith; few = omega (arith, p.few, d); meets = here ∙ deep_call kind (get_or w i 0) (drop (i + 1) w) n (sym e ∙ z) d ∙ ap (λ j. too_deep kind j (drop (i + 1) w)) m }

    pub deepen_last : k ≡ 1 → n ≡ open_most → true ≡ too_deep kind 0 w
    deepen_last z d = sym (here ∙ deep_last kind (get_or w i 0) (drop (i + 1) w) n (sym e ∙ z) d)

    module _ (z : k ≡ 0 → ⊥) (o : k ≡ 1 → ⊥) where
      is_return : kind (get_or w i 0) ≡ suc (suc (k - 2))
      is_return = omega (arith, z, o, e)

      pub deepen_return : (n ≡ 0 → ⊥) → Deepening kind w (n - 1) (i + 1)
      deepen_return d = record { inside = omega arith; few = omega (arith, p.few); meets = here ∙ deep_return kind (get_or w i 0) (drop (i + 1) w) n is_return d }

      pub deepen_end : n ≡ 0 → false ≡ too_deep kind 0 w
      deepen_end d = sym (here ∙ deep_end kind (get_or w i 0) (drop (i + 1) w) n is_return d)
