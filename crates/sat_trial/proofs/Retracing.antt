-- Laws for the walk back along the guesses that stand, to the first values whose trial holds. Assumes nothing.
use mathlib.Core.Path.{◌≡◌, refl, sym, ap, ◌∙◌}
use mathlib.Core.Bool.{true, false}
use mathlib.Core.List.{List}
use Prim.Native.Nat.{ℕ, zero, suc, ◌<◌}
use native.Mathlib.Omega.{arith}
use lib.ListN.{length, get_or, take}
use lib.Seq.{slice, take-take}
use Rattle.cnf.specs.Trials.{only_true, satisfied}
use Rattle.sat_trail.specs.Trail.{unsetting}
use Rattle.sat_trail.proofs.Trails.{length-unsetting}
use Rattle.sat_trail.specs.Undo.{Undoable}
use Rattle.sat_trial.specs.Trial.{held_if, back_along, Retraceable}

-- the walk came from the values v₀, with d₀ guesses and count₀ variables on the trail t, to v, with d and count
pub record Retracing (cs : List (List ℕ)) (ms v₀ t : List ℕ) (d₀ count₀ : ℕ) (v : List ℕ) (d count : ℕ) : Type 0 where
  pub size : length v ≡ length v₀
  pub able : Retraceable v t ms d count
  pub meets : back_along cs ms v₀ (take count₀ t) d₀ ≡ back_along cs ms v (take count t) d

pub retracing : {cs : List (List ℕ)} {ms v t : List ℕ} {d count : ℕ} → Retraceable v t ms d count → Retracing cs ms v t d count v d count
retracing r = record { size = refl; able = r; meets = refl }

-- where the trial of the values holds, it is the one
back-holds : (cs : List (List ℕ)) (ms v p : List ℕ) (d : ℕ) → satisfied cs (only_true v) ≡ true → back_along cs ms v p d ≡ held_if true v
unfolding back_along
back-holds cs ms v p zero e = rw (back_along, e)
back-holds cs ms v p (suc d) e = rw (back_along, e)

back_none : (cs : List (List ℕ)) (ms v p : List ℕ) (d : ℕ) → satisfied cs (only_true v) ≡ false → d ≡ 0 → back_along cs ms v p d ≡ held_if false v
unfolding back_along
back_none cs ms v p zero e z = rw (back_along, e)
back_none cs ms v p (suc d) e z = absurd (omega arith)

back_on :
    (cs : List (List ℕ)) (ms v t : List ℕ) (count d : ℕ) → satisfied cs (only_true v) ≡ false
    → back_along cs ms v (take count t) (suc d) ≡ back_along cs ms (unsetting v (slice (get_or ms d 0) count t)) (take (get_or ms d 0) (take count t)) d
unfolding back_along
back_on cs ms v t count d e = rw (back_along, e)

module _ {cs : List (List ℕ)} {ms v₀ t v : List ℕ} {d₀ count₀ d count : ℕ} (r : Retracing cs ms v₀ t d₀ count₀ v d count) where
  pub retrace_holds : {w : List ℕ} → satisfied cs (only_true v) ≡ true → w ≡ held_if true v → w ≡ back_along cs ms v₀ (take count₀ t) d₀
  retrace_holds e q = q ∙ sym (r.meets ∙ back-holds cs ms v (take count t) d e)

  module _ (e : satisfied cs (only_true v) ≡ false) where
    pub retrace_none : {w : List ℕ} → d ≡ 0 → w ≡ held_if false v → w ≡ back_along cs ms v₀ (take count₀ t) d₀
    retrace_none z q = q ∙ sym (r.meets ∙ back_none cs ms v (take count t) d e z)

    -- back to the latest guess
    module _ (f : ℕ) {mark : ℕ} (q : d ≡ suc f) (m : mark ≡ get_or ms f 0) where
      place : mark < count
      place = omega (arith, r.able.places f (omega arith))

      pub can_retrace : Undoable v t mark count
      can_retrace = record { inside = place; room = r.able.room; below = r.able.below }

      pub retrace_on : {w : List ℕ} → w ≡ unsetting v (slice mark count t) → Retracing cs ms v₀ t d₀ count₀ w f mark
      retrace_on {w} u = record {
        size = same ∙ r.size;
        able = record {
          few = omega (arith, r.able.few);
          room = omega (arith, r.able.room, place);
          below = λ i h. omega (arith, r.able.below i (omega (arith, place)), same);
          places = λ i h. omega (arith, r.able.ascend i f h (omega arith));
          ascend = λ i j h k. r.able.ascend i j h (omega arith);
        };
        meets =
            r.meets
            ∙ ap (back_along cs ms v (take count t)) q
            ∙ back_on cs ms v t count f e
            ∙ (λ i. back_along cs ms (unsetting v (slice (sym m i) count t)) (take (sym m i) (take count t)) f)
            ∙ (λ i. back_along cs ms (sym u i) (take-take mark count t (omega (arith, place)) i) f);
      }
        where
          same : length w ≡ length v
          same = ap length u ∙ length-unsetting v (slice mark count t)
