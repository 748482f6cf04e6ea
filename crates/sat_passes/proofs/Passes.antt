-- Laws for passes over the clauses of cs, where the clauses of ds are at rest before each. Assumes nothing.
use mathlib.Core.Path.{◌≡◌, refl, sym, ap, ◌∙◌, subst}
use mathlib.Core.Logic.{◌⊎◌, inl, inr, ◌≢◌}
use mathlib.Core.Bool.{Bool, true, false}
use mathlib.Core.List.Memᴰ.{append_cases}
use mathlib.Core.List.{List, [], ◌∷◌, ◌++◌, Memᴰ}
use Prim.Native.Nat.{ℕ, ◌-◌, ◌≤◌, ◌<◌}
use native.Mathlib.Omega.{arith}
use lib.ListN.{length, take, length-append}
use lib.Seq.{slice, slice_empty, length-take-le}
use Rattle.cnf.specs.Clauses.{value_of}
use Rattle.cnf.specs.Closing.{Settled, AtRest, Waiting}
use Rattle.cnf.proofs.Queue.{waiting-more, rest-waiting, waiting-rest}
use Rattle.sat_trail.specs.Trail.{unsetting, Ready, Worked, OnePass, Queue, Drained, Settles}
use Rattle.sat_trail.proofs.Trails.{grown-same, grown_slice}
use Rattle.sat_trail.proofs.Working.{worked-none, worked-length, worked_on, worked-count, worked_trans, ready-part, worked-part, drained_broken, drained_settles}
use Rattle.sat_passes.proofs.Attending.{to_ds, to_cs}

-- clauses at rest wait for the variables that steps by others have set
pub worked-queue : {cs ds : List (List ℕ)} {v t w s : List ℕ} {start count : ℕ} {isBroken : Bool} → Ready cs v t start → Worked cs v t start w s isBroken count → AtRest ds v → Queue ds w s start count
worked-queue {cs} {ds} {v} {t} {w} {s} {start} {count} ready p rest = record {
  inside = worked-count ready p;
  queued = λ x m. set-now x (subst (λ (l : List ℕ). Memᴰ x l) new m);
  waiting = subst (Waiting ds w) (sym new) (waiting-more p.grown.new (grown-same p.grown) (rest-waiting [] rest));
}
  where
    new : slice start count s ≡ p.grown.new
    new = grown_slice p.grown {at = start} (omega arith) (omega (arith, ready.counted, ready.room)) ∙ ap (λ (l : List ℕ). l ++ p.grown.new) (slice_empty start t)

    set-now : (x : ℕ) → Memᴰ x p.grown.new → (x < length w) × (value_of w x ≢ 2)
    set-now x m = (rw (worked-length ready p) (p.grown.below x m), p.fresh x m)

-- before the queue from `at` on: v₀ and t₀ were the values and the trail where settling began
pub record Settling (cs ds : List (List ℕ)) (v₀ t₀ : List ℕ) (start : ℕ) (v t : List ℕ) (at count : ℕ) : Type 0 where
  pub ready : Ready (cs ++ ds) v₀ t₀ start
  pub worked : Worked (cs ++ ds) v₀ t₀ start v t false count
  pub queue : Queue ds v t at count

module _ (cs ds : List (List ℕ)) where
  pub settling : {v t : List ℕ} {from start : ℕ} → Ready (cs ++ ds) v t start → Queue ds v t from start → Settling cs ds v t start v t from start
  settling r q = record { ready = r; worked = worked-none r; queue = q }

module _ {cs ds : List (List ℕ)} {v₀ t₀ v t : List ℕ} {start at count : ℕ} (i : Settling cs ds v₀ t₀ start v t at count) where
  pub drain_ready : Ready ds v t count
  drain_ready = ready-part ds (cs ++ ds) (to_ds cs ds) (worked_on i.ready i.worked)

  -- the clauses of ds are seen to
  module _ {w s : List ℕ} {mid : ℕ} {isBroken : Bool} (d : Drained ds v t count w s isBroken mid) where
    drained : Worked (cs ++ ds) v₀ t₀ start w s isBroken mid
    drained = worked_trans i.worked (worked-part ds (cs ++ ds) (to_ds cs ds) d.worked)

    pub drained_values : length w ≡ length v₀
    drained_values = worked-length i.ready drained

    pub drained_trail : length s ≡ length t₀
    drained_trail = drained.grown.long

    pub drain_broken : isBroken ≡ true → Settles (cs ++ ds) v₀ t₀ start w s isBroken mid
    drain_broken e = drained_settles i.ready (drained_broken drained e)

    pub pass-ready : Ready cs w s mid
    pass-ready = ready-part cs (cs ++ ds) (to_cs cs ds) (worked_on i.ready drained)

    -- and those of cs are passed
    module _ (quiet : isBroken ≡ false) {u r : List ℕ} {more : ℕ} {isBroken' : Bool} (p : OnePass cs w s mid u r isBroken' more) where
      all-worked : Worked (cs ++ ds) v₀ t₀ start u r isBroken' more
      all-worked = worked_trans drained (worked-part cs (cs ++ ds) (to_cs cs ds) p.worked)

      pub propagate_passes_values : length u ≡ length v₀
      propagate_passes_values = worked-length i.ready all-worked

      pub propagate_passes_trail : length r ≡ length t₀
      propagate_passes_trail = all-worked.grown.long

      pub propagate_passes_less : (more ≡ mid → ⊥) → length u - more < length v - count
      propagate_passes_less n =
          omega
          (arith, worked-length i.ready i.worked, propagate_passes_values, worked-count drain_ready d.worked, worked-count pass-ready p.worked, p.worked.grown.counted)

      pub propagate_passes_broken : isBroken' ≡ true → Settles (cs ++ ds) v₀ t₀ start u r true more
      propagate_passes_broken e = drained_settles i.ready (drained_broken (rw e at all-worked) refl)

      -- what the pass has set
      room : mid ≤ length s
      room = omega (arith, pass-ready.counted, pass-ready.room)

      pub propagate_passes_more : isBroken' ≡ false → Settling cs ds v₀ t₀ start u r mid more
      propagate_passes_more e = record {
        ready = i.ready;
        worked = rw e at all-worked;
        queue = worked-queue pass-ready p.worked (d.at_rest quiet);
      }

      -- the pass set nothing
      pub propagate_passes_rest : isBroken' ≡ false → more ≡ mid → Settles (cs ++ ds) v₀ t₀ start u r false more
      propagate_passes_rest e q = drained_settles i.ready (record { worked = rw e at all-worked; at_rest = λ _ c m. pick c (append_cases cs m) })
        where
          none : p.worked.grown.new ≡ []
          none = empty p.worked.grown.new size
            where
              size : length p.worked.grown.new ≡ 0
              size =
                  omega
                  (arith, q, length-take-le mid s room, length-take-le more r (omega (arith, (worked_on pass-ready p.worked).counted, (worked_on pass-ready p.worked).room)), ap length p.worked.grown.grows, length-append (take mid s) p.worked.grown.new)

              empty : (xs : List ℕ) → length xs ≡ 0 → xs ≡ []
              empty [] e = refl
              empty (x ∷ xs) e = absurd (omega arith)

          same : w ≡ u
          same = unfold unsetting in sym p.worked.grown.back ∙ ap (unsetting u) none

          rest : AtRest cs u
          rest = waiting-rest (subst (Waiting cs u) none (p.waiting e))

          pick : (c : List ℕ) → Memᴰ c cs ⊎ Memᴰ c ds → Settled u c
          pick c (inl m) = rest c m
          pick c (inr m) = subst (λ (x : List ℕ). Settled x c) same (d.at_rest quiet c m)
