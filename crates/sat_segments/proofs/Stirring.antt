-- Laws for closing the values by segments: a clause that is not settled has a variable that was set since the last pass began, and so stands in a segment
-- of that variable. Assumes nothing.
use mathlib.Core.Path.{◌≡◌, refl, sym, ap, ◌∙◌, subst}
use mathlib.Core.Logic.{◌⊎◌, inl, inr}
use mathlib.Core.Bool.{Bool, false}
use mathlib.Core.List.Memᴰ.{append_cases}
use mathlib.Core.List.{List, ◌++◌, Memᴰ}
use Prim.Native.Nat.{ℕ, ◌+◌, ◌-◌, ◌/◌, ◌≤◌, ◌<◌}
use native.Mathlib.Omega.{arith}
use lib.ListN.{length, get_or, take}
use lib.Seq.{slice, slice_empty, length-slice, get_or-drop, get_or-take}
use Rattle.lists.proofs.Members.{get_d_mem}
use Rattle.cnf.specs.Clauses.{clauses_in}
use Rattle.cnf.specs.Closing.{Settled, SettledOr, Waiting}
use Rattle.cnf.proofs.Queue.{waiting-more}
use Rattle.sat_trail.specs.Trail.{Ready, OnePass, Drained}
use Rattle.sat_trail.proofs.Trails.{grown-same, grown_slice}
use Rattle.sat_trail.proofs.Working.{worked-length, worked-count, worked_on}
use Rattle.sat_passes.proofs.Passes.{Settling, drain_ready, pass-ready}
use Rattle.sat_segments.specs.Segments.{Marked, Gained, Due, SettledOrDue, Lookup}
use Rattle.sat_segments.proofs.Gathering.{gained-has}

-- clauses wait for variables whose segments are gathered
pub settled_or_due : {ws starts masks xs none set v : List ℕ} → Marked ws starts masks → Gained masks xs none set → Waiting (clauses_in ws) v xs → SettledOrDue ws starts set v
settled_or_due {ws} {starts} {masks} {xs} {none} {set} {v} k g w = λ c m. go c m (w c m)
  where
    go : (c : List ℕ) → Memᴰ c (clauses_in ws) → SettledOr v xs c → Settled v c ⊎ Due ws starts set 0 c
    go c m (inl s) = inl s
    go c m (inr s) =
        let p = k.each c m in
        inr (record { number = p.number; later = omega arith; few = p.few; has = p.has; due = gained-has (s.literal / 2) p.number g p.few s.queued (p.marked s.literal s.has) })

-- a place of a part of the trail
part-has : (t : List ℕ) {from to i : ℕ} → from ≤ i → i < to → to ≤ length t → Memᴰ (get_or t i 0) (slice from to t)
part-has t {from} {to} {i} h k l = subst (λ (x : ℕ). Memᴰ x (slice from to t)) same (get_d_mem (slice from to t) (i - from) 0 (omega (arith, length-slice from to t l)))
  where
    there : from + (i - from) ≡ i
    there = omega arith

    same : get_or (slice from to t) (i - from) 0 ≡ get_or t i 0
    same = get_or-drop from (take to t) (i - from) 0 ∙ ap (λ (n : ℕ). get_or (take to t) n 0) there ∙ get_or-take to t i 0 k

-- what a pass has set, and that its masks are there
module _ {cs : List (List ℕ)} {v t w r : List ℕ} {count more : ℕ} (ready : Ready cs v t count) (p : OnePass cs v t count w r false more) where
  new : slice count more r ≡ p.worked.grown.new
  new = grown_slice p.worked.grown {at = count} (omega arith) (omega (arith, ready.counted, ready.room)) ∙ ap (λ (l : List ℕ). l ++ p.worked.grown.new) (slice_empty count t)

  pub pass-waiting : Waiting cs w (slice count more r)
  pass-waiting = subst (Waiting cs w) (sym new) (p.waiting refl)

  pub pass_lookup : {masks : List ℕ} → length masks ≡ 12480 → length v ≤ 780 → Lookup masks r count more
  pass_lookup m h = record {
    long = m;
    ordered = worked-count ready p.worked;
    inside = inside;
    below = λ j l k. omega (arith, p.worked.grown.below (get_or r j 0) (subst (λ (xs : List ℕ). Memᴰ (get_or r j 0) xs) new (part-has r {from = count} {to = more} {i = j} l k inside)), h);
  }
    where
      after : Ready cs w r more
      after = worked_on ready p.worked

      inside : more ≤ length r
      inside = omega (arith, after.counted, after.room)

module _ {cs ds : List (List ℕ)} {v₀ t₀ v t : List ℕ} {start at count : ℕ} (i : Settling cs ds v₀ t₀ start v t at count) {w s : List ℕ} {mid : ℕ} {isBroken : Bool} (d : Drained ds v t count w s isBroken mid) where
  trail-room : count ≤ length t
  trail-room = omega (arith, (drain_ready i).counted, (drain_ready i).room)

  longer : slice at mid s ≡ slice at count t ++ d.worked.grown.new
  longer = grown_slice d.worked.grown {at = at} i.queue.inside trail-room

  -- the clauses of cs wait for what was set before ds was seen to, and for what was set then
  pub drained_waiting : Waiting cs v (slice at count t) → Waiting cs w (slice at mid s)
  drained_waiting q = subst (Waiting cs w) (sym longer) (waiting-more d.worked.grown.new (grown-same d.worked.grown) q)

  pub drain_ordered : (at ≤ count) × (count ≤ mid)
  drain_ordered = (i.queue.inside, worked-count (drain_ready i) d.worked)

  pub lookup : {masks : List ℕ} {from to : ℕ} → length masks ≡ 12480 → length v₀ ≤ 780 → at ≤ from → from ≤ to → to ≤ mid → Lookup masks s from to
  lookup m h a b e = record {
    long = m;
    ordered = b;
    inside = omega (arith, inside);
    below = λ j l k. below (get_or s j 0) (append_cases (slice at count t) (subst (λ (xs : List ℕ). Memᴰ (get_or s j 0) xs) longer (part-has s {from = at} {to = mid} {i = j} (omega arith) (omega arith) inside)));
  }
    where
      inside : mid ≤ length s
      inside = omega (arith, (pass-ready i d).counted, (pass-ready i d).room)

      below : (x : ℕ) → Memᴰ x (slice at count t) ⊎ Memᴰ x d.worked.grown.new → x < 780
      below x (inl q) = omega (arith, (i.queue.queued x q).0, worked-length i.ready i.worked, h)
      below x (inr q) = omega (arith, d.worked.grown.below x q, worked-length i.ready i.worked, h)
