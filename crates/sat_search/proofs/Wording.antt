-- Laws for the counters of the clauses over the turns. Assumes nothing.
use mathlib.Core.Path.{◌≡◌}
use mathlib.Core.Bool.{Bool, true, false}
use mathlib.Core.List.{List}
use Prim.Native.Nat.{ℕ, suc, ◌+◌, ◌-◌, ◌*◌, ◌/◌, ◌%◌, ◌≤◌, ◌<◌}
use native.Mathlib.Omega.{arith}
use lib.ListN.{length, get_or, set}
use lib.Seq.{get_or-set_same}
use Rattle.cnf.specs.Clauses.{clauses_in}
use Rattle.sat_trail.specs.Trail.{Ready, Settles}
use Rattle.cnf.specs.Closing.{unset_count}
use Rattle.sat_trail.specs.Conclusions.{with_triangles}
use Rattle.sat_trail.specs.Rows.{Forced}
use Rattle.sat_trail.proofs.Trails.{grown-count, grown-length}
use Rattle.sat_counters.proofs.Earlier.{behind_guess, behind-grown, behind-rested}
use Rattle.sat_restore.specs.Restoring.{CountersBeforeIf, TrailMark, Sized}
use Rattle.sat_decide.specs.Turns.{LowestUnset}
use Rattle.sat_decide.proofs.Ends.{Turning, after-size, after-count, after-places, counted-before, room-left, list-formed}
use Rattle.sat_propagate.specs.Preparing.{Prepared, CountersOfIf, CountersAtRestIf}

-- the latest guess is at the place where the values were last closed, or before it
pub record Marked (ms : List ℕ) (depth at : ℕ) : Type 0 where
  pub before : (d : ℕ) → depth ≡ suc d → get_or ms d 0 ≤ at

pub marked-none : {ms : List ℕ} {at : ℕ} → Marked ms 0 at
marked-none = record { before = λ d z. absurd (omega (arith, z)) }

pub marked_guess : (ms : List ℕ) {depth at : ℕ} → depth < length ms → Marked (set ms depth at) (depth + 1) at
marked_guess ms {depth} {at} h = record { before = λ d z. let same : d ≡ depth = omega (arith, z) in rw same (omega (arith, get_or-set_same ms depth at 0 h)) }

-- what is prepared does not depend on what the counters and notes are
pub prepared_on :
    {ws firsts clauses starts masks counters noted counters' noted' : List ℕ} → length counters' ≡ length counters → length noted' ≡ length noted
    → Prepared ws firsts clauses starts masks counters noted → Prepared ws firsts clauses starts masks counters' noted'
prepared_on a b p = record { all_there = p.all_there; indexed = p.indexed; marked = p.marked; room = record { few = omega (arith, a, p.room.few); noted-room = omega (arith, b, p.room.noted-room); short = omega (arith, b, p.room.short) } }

pub prepared_sized : {ws firsts clauses starts masks counters noted counters' : List ℕ} → length counters' ≡ length counters → Prepared ws firsts clauses starts masks counters noted → Sized clauses counters'
prepared_sized a p = record { few = omega (arith, p.room.noted-room, p.room.short); small = omega (arith, a, p.room.few) }

-- the first closing is done
pub lags-first :
    {ws v t counters : List ℕ} {count : ℕ} (clauses : List ℕ) → CountersOfIf ws clauses v counters → count + unset_count v ≡ length v → count ≤ length t
    → CountersBeforeIf ws clauses v t count count counters
lags-first clauses t c h = λ k. behind-rested c h (t k)

module _ (ws : List ℕ) (m : ℕ) {v t ms w s : List ℕ} {n b most from count depth made low more : ℕ} {isBroken : Bool} (i : Turning (with_triangles ws m) n b most v t ms from count depth made low) (c : Settles (with_triangles ws m) v t count w s isBroken more) where
  trail-room : count ≤ length t
  trail-room = omega (arith, i.ready.counted, i.ready.room)

  after-ready : Ready (clauses_in ws) w s more
  after-ready = record {
    formed = list-formed ws m (rw (after-size i c, ← i.size) i.ready.formed);
    values = rw (grown-length c.grown) c.values;
    counted = c.grown.counted;
    room = omega (arith, after-size i c, after-count i c);
  }

  -- the counters that were saved
  pub saved_on :
      {counters saved : List ℕ} (clauses : List ℕ) → (length ws ≤ length clauses → saved ≡ counters) → CountersBeforeIf ws clauses v t from count counters
      → CountersBeforeIf ws clauses w s from more saved
  saved_on clauses e l = λ k. rw (e k) (behind-grown c.grown i.queue.inside trail-room (l k))

  -- a clause is broken
  pub passed : (e : isBroken ≡ true) (d : ℕ) {mark : ℕ} (q : depth ≡ suc d) (z : mark ≡ get_or ms d 0) → Marked ms depth from → TrailMark ws w s mark from more
  passed e d q z k = record {
    ready = after-ready;
    most = omega (arith, after-size i c, i.most);
    below = after-places i c;
    before = omega (arith, z, k.before d q);
    inside = omega (arith, i.queue.inside, grown-count c.grown trail-room (omega (arith, after-size i c, after-count i c)));
    counted = counted-before i c e d q z;
  }

  -- a guess is made
  pub lags_guess :
      {x l k last : ℕ} {counters u r joined apart : List ℕ} (clauses : List ℕ) (e : isBroken ≡ false) (f : LowestUnset w low x)
      → CountersAtRestIf ws clauses w counters isBroken → l ≡ 2 * x → Forced k w s more l u r joined apart last → CountersBeforeIf ws clauses u r more last counters
  lags_guess {x} {l} clauses e f g z h =
      let half : l / 2 ≡ x = omega (arith, z) in
      λ y. rw (h.assigned.values, h.trail, h.count-more, half) (behind_guess s more x (1 - l % 2) (g y e) c.grown.counted (f.first.found f.inside) (omega (arith, room-left i c e f, after-count i c)))
