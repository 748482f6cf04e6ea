-- Laws for the queue: the trail from a place on has the variables whose clauses are still to be seen to. Assumes nothing.
use mathlib.Core.Path.{◌≡◌, refl, sym, subst}
use mathlib.Core.Logic.{◌⊎◌, inl, inr, ◌≢◌}
use mathlib.Core.Bool.{Bool, true, false}
use mathlib.Core.List.Memᴰ.{append_cases}
use mathlib.Core.List.{List, [], ◌∷◌, ◌++◌, Memᴰ}
use Prim.Native.Nat.{ℕ, ◌+◌, ◌-◌, ◌/◌, ◌≤◌, ◌<◌}
use native.Mathlib.Numerals.{add-one}
use native.Mathlib.Omega.{arith}
use lib.ListN.{length, get_or}
use lib.Seq.{slice, slice_empty, slice-cons}
use Rattle.cnf.specs.Clauses.{value_of}
use Rattle.cnf.specs.Closing.{SettledOr, Waiting}
use Rattle.cnf.proofs.Queue.{waiting-more, waiting-next, waiting-rest}
use Rattle.sat_trail.specs.Trail.{Ready, Worked, Attended, Queue, Drained}
use Rattle.sat_trail.proofs.Trails.{grown-same, grown_slice}
use Rattle.sat_trail.proofs.Working.{settled_or_behind, worked-none, worked_on, worked-length, worked-count, worked_trans, set_on, drained_broken}

-- the clauses that have the variable x are seen to: each is settled, or has one of the variables qs or one that was set meanwhile
pub record SeenTo (cs : List (List ℕ)) (x : ℕ) (qs v t : List ℕ) (count : ℕ) (w s : List ℕ) (isBroken : Bool) (more : ℕ) : Type 0 where
  pub worked : Worked cs v t count w s isBroken more
  pub settles : isBroken ≡ false → (c : List ℕ) → Memᴰ c cs → (l : ℕ) → Memᴰ l c → l / 2 ≡ x → SettledOr w (qs ++ worked.grown.new) c

pub attended_seen :
    {cs : List (List ℕ)} {x : ℕ} (qs : List ℕ) {v t w s : List ℕ} {count more : ℕ} {isBroken : Bool} → Attended cs x v t count w s isBroken more
    → SeenTo cs x qs v t count w s isBroken more
attended_seen qs k = record { worked = k.worked; settles = λ e c mc m mm p. settled_or_behind qs (k.settles e c mc m mm p) }

-- before the variable at `at`
pub record Queueing (cs : List (List ℕ)) (v t : List ℕ) (start : ℕ) (w s : List ℕ) (count at : ℕ) : Type 0 where
  pub ready : Ready cs v t start
  pub worked : Worked cs v t start w s false count
  pub queue : Queue cs w s at count

pub queueing : {cs : List (List ℕ)} {v t : List ℕ} {start from : ℕ} → Ready cs v t start → Queue cs v t from start → Queueing cs v t start v t start from
queueing r q = record { ready = r; worked = worked-none r; queue = q }

module _ {cs : List (List ℕ)} {v t w s : List ℕ} {start count at : ℕ} (j : Queueing cs v t start w s count at) where
  pub queue-ready : Ready cs w s count
  queue-ready = worked_on j.ready j.worked

  pub queue-values : length w ≡ length v
  queue-values = worked-length j.ready j.worked

  long-enough : count ≤ length s
  long-enough = omega (arith, queue-ready.counted, queue-ready.room)

  -- the queue is empty
  pub queue_end : count ≤ at → Drained cs v t start w s false count
  queue_end h = record { worked = j.worked; at_rest = λ _. waiting-rest (subst (Waiting cs w) empty j.queue.waiting) }
    where
      empty : slice at count s ≡ []
      empty = let z : at ≡ count = omega (arith, j.queue.inside) in rw z (slice_empty count s)

  module _ (h : at < count) where
    first : slice at count s ≡ get_or s at 0 ∷ slice (at + 1) count s
    first = rw add-one (slice-cons at count s 0 h long-enough)

    pub at-inside : at < length s
    at-inside = omega (arith, long-enough)

    pub at_small : at < length w
    at_small = omega (arith, queue-ready.counted)

    -- its first variable
    pub next-queued : (get_or s at 0 < length w) × (value_of w (get_or s at 0) ≢ 2)
    next-queued = j.queue.queued (get_or s at 0) (rw first (Memᴰ.head refl))

    -- is seen to
    module _ {u r : List ℕ} {more : ℕ} {isBroken : Bool} (k : SeenTo cs (get_or s at 0) (slice (at + 1) count s) w s count u r isBroken more) where
      all-worked : Worked cs v t start u r isBroken more
      all-worked = worked_trans j.worked k.worked

      pub seen-values : length u ≡ length v
      seen-values = worked-length j.ready all-worked

      pub seen-trail : length r ≡ length t
      seen-trail = all-worked.grown.long

      pub queue-less : length u - (at + 1) < length w - at
      queue-less = omega (arith, at_small, seen-values, queue-values)

      pub queue-broken : isBroken ≡ true → Drained cs v t start u r isBroken more
      queue-broken = drained_broken all-worked

      -- what is set joins the queue
      longer : slice (at + 1) more r ≡ slice (at + 1) count s ++ k.worked.grown.new
      longer = grown_slice k.worked.grown {at = at + 1} (omega arith) long-enough

      pub queue_on : isBroken ≡ false → Queueing cs v t start u r more (at + 1)
      queue_on e = record {
        ready = j.ready;
        worked = subst (λ (b : Bool). Worked cs v t start u r b more) e all-worked;
        queue = record {
          inside = omega (arith, worked-count queue-ready k.worked);
          queued = λ y m. pick y (append_cases (slice (at + 1) count s) (subst (λ (l : List ℕ). Memᴰ y l) longer m));
          waiting = subst (Waiting cs u) (sym longer) (waiting-next (get_or s at 0) (slice (at + 1) count s ++ k.worked.grown.new) moved (k.settles e));
        };
      }
        where
          pick : (y : ℕ) → Memᴰ y (slice (at + 1) count s) ⊎ Memᴰ y k.worked.grown.new → (y < length u) × (value_of u y ≢ 2)
          pick y (inl m) = set_on queue-ready k.worked (j.queue.queued y (rw first (Memᴰ.tail m)))
          pick y (inr m) = (rw (worked-length queue-ready k.worked) (k.worked.grown.below y m), k.worked.fresh y m)

          moved : Waiting cs u (get_or s at 0 ∷ (slice (at + 1) count s ++ k.worked.grown.new))
          moved = waiting-more k.worked.grown.new (grown-same k.worked.grown) (subst (Waiting cs w) first j.queue.waiting)
