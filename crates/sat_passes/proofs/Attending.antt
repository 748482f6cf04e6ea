-- The clauses that have a variable, seen to group by group: those of ds first, then those of cs on the values that are left. With the short list's
-- clauses for cs and group 2 for ds that is a turn of the queue over both. Assumes nothing.
use mathlib.Core.Path.{◌≡◌, sym, ◌∙◌, subst}
use mathlib.Core.Logic.{◌⊎◌, inl, inr, ◌≢◌}
use mathlib.Core.Bool.{Bool, true, false, true≢false}
use mathlib.Core.List.Memᴰ
use mathlib.Core.List.Memᴰ.{append_cases}
use mathlib.Core.List.{List, ◌++◌, append_assoc, Memᴰ}
use Prim.Native.Nat.{ℕ, ◌+◌, ◌/◌, ◌<◌}
use lib.ListN.{length, get_or}
use lib.Seq.{slice}
use Rattle.cnf.specs.Clauses.{value_of}
use Rattle.cnf.specs.Closing.{SettledOr}
use Rattle.cnf.proofs.Queue.{settled_or_more}
use Rattle.sat_trail.specs.Trail.{Ready, Attended}
use Rattle.sat_trail.proofs.Trails.{grown-same}
use Rattle.sat_trail.proofs.Working.{settled_or_behind, worked-length, worked_on, set_on, worked_trans, ready-part, worked-part}
use Rattle.equality_propagate.proofs.Queueing.{SeenTo, Queueing, queue-ready, queue-values, next-queued}

module _ (cs ds : List (List ℕ)) where
  pub to_ds : (c : List ℕ) → Memᴰ c ds → Memᴰ c (cs ++ ds)
  to_ds c m = Memᴰ.append_right cs m

  pub to_cs : (c : List ℕ) → Memᴰ c cs → Memᴰ c (cs ++ ds)
  to_cs c m = Memᴰ.append_left ds m

module _ (cs ds : List (List ℕ)) {x : ℕ} {v t w s : List ℕ} {start count : ℕ} {isBroken : Bool} (k : Attended ds x v t start w s isBroken count) where
  -- a clause of the first group is broken
  attended_broken : isBroken ≡ true → (qs : List ℕ) → SeenTo (cs ++ ds) x qs v t start w s isBroken count
  attended_broken e qs = record { worked = worked-part ds (cs ++ ds) (to_ds cs ds) k.worked; settles = λ f. absurd (true≢false (sym e ∙ f)) }

  -- the second group, on what the first has set
  attended_then :
      {u r : List ℕ} {more : ℕ} {isBroken' : Bool} (qs : List ℕ) → isBroken ≡ false → SeenTo cs x (qs ++ k.worked.grown.new) w s count u r isBroken' more
      → SeenTo (cs ++ ds) x qs v t start u r isBroken' more
  unfolding worked_trans worked-part
  attended_then {u = u} {isBroken' = isBroken'} qs e h = record {
    worked = worked_trans (worked-part ds (cs ++ ds) (to_ds cs ds) k.worked) (worked-part cs (cs ++ ds) (to_cs cs ds) h.worked);
    settles = λ f c m l o q. pick f c l o q (append_cases cs m);
  }
    where
      pick : isBroken' ≡ false → (c : List ℕ) (l : ℕ) → Memᴰ l c → l / 2 ≡ x → Memᴰ c cs ⊎ Memᴰ c ds → SettledOr u (qs ++ (k.worked.grown.new ++ h.worked.grown.new)) c
      pick f c l o q (inl m) = subst (λ (rs : List ℕ). SettledOr u rs c) (append_assoc qs k.worked.grown.new h.worked.grown.new) (h.settles f c m l o q)
      pick f c l o q (inr m) = settled_or_behind qs (settled_or_more h.worked.grown.new (grown-same h.worked.grown) (k.settles e c m l o q))

-- ---- a turn of the queue over both groups

pub record Both (cs ds : List (List ℕ)) (v t : List ℕ) (start : ℕ) (w s : List ℕ) (count at : ℕ) : Type 0 where
  pub queueing : Queueing (cs ++ ds) v t start w s count at

module _ {cs ds : List (List ℕ)} {v t w s : List ℕ} {start count at : ℕ} (j : Both cs ds v t start w s count at) (h : at < count) where
  all-ready : Ready (cs ++ ds) w s count
  all-ready = queue-ready j.queueing

  pub first-ready : Ready ds w s count
  first-ready = ready-part ds (cs ++ ds) (to_ds cs ds) all-ready

  -- the first group is seen to
  module _ {u r : List ℕ} {mid : ℕ} {isBroken : Bool} (k : Attended ds (get_or s at 0) w s count u r isBroken mid) where
    pub first-broken : isBroken ≡ true → SeenTo (cs ++ ds) (get_or s at 0) (slice (at + 1) count s) w s count u r isBroken mid
    first-broken e = attended_broken cs ds k e (slice (at + 1) count s)

    pub then_ready : Ready cs u r mid
    then_ready = ready-part cs (cs ++ ds) (to_cs cs ds) (worked_on all-ready (worked-part ds (cs ++ ds) (to_ds cs ds) k.worked))

    pub then-length : length u ≡ length v
    then-length = worked-length first-ready k.worked ∙ queue-values j.queueing

    pub then-set : (get_or s at 0 < length u) × (value_of u (get_or s at 0) ≢ 2)
    then-set = set_on first-ready k.worked (next-queued j.queueing h)

    -- and the second
    pub both-seen :
        {u' r' : List ℕ} {more : ℕ} {isBroken' : Bool} → isBroken ≡ false
        → SeenTo cs (get_or s at 0) (slice (at + 1) count s ++ k.worked.grown.new) u r mid u' r' isBroken' more
        → SeenTo (cs ++ ds) (get_or s at 0) (slice (at + 1) count s) w s count u' r' isBroken' more
    both-seen e q = attended_then cs ds k (slice (at + 1) count s) e q
