-- Laws for a pass over the segments of a set, where the clauses elsewhere are settled. Assumes nothing.
use mathlib.Core.Path.{◌≡◌, refl, sym, ◌∙◌, subst}
use mathlib.Core.Logic.{◌⊎◌, inl, inr}
use mathlib.Core.Bool.{Bool, true, false, true≢false}
use mathlib.Core.List.{List, ◌++◌, Memᴰ}
use Prim.Native.Nat.{ℕ, ◌+◌, ◌/◌, ◌%◌, ◌≤◌, ◌<◌}
use native.Mathlib.Omega.{arith}
use native.Mathlib.Decide.{ℕ_discrete}
use lib.ListN.{length, get_or}
use Rattle.lists.specs.Bits.{Bit, has}
use Rattle.lists.proofs.Bits.{has_of}
use Rattle.cnf.specs.Clauses.{clauses_in}
use Rattle.cnf.specs.Closing.{Settled, SettledOr}
use Rattle.cnf.proofs.Queue.{settled_or_more}
use Rattle.sat_trail.specs.Trail.{Ready, Worked, OnePass}
use Rattle.sat_trail.proofs.Trails.{grown-same, grown_trans}
use Rattle.sat_trail.proofs.Working.{settled_or_behind, worked-none, worked-length, worked_on, worked_trans, ready-part, worked-part}
use Rattle.sat_segments.specs.Segments.{segment_of, Cut, Due, SettledOrDue}

-- a pass whose end is known
pub told : {cs : List (List ℕ)} {v t w r : List ℕ} {count more : ℕ} {isBroken isSo : Bool} → isBroken ≡ isSo → OnePass cs v t count w r isBroken more → OnePass cs v t count w r isSo more
told {cs} {v} {t} {w} {r} {count} {more} e p = subst (λ (b : Bool). OnePass cs v t count w r b more) e p

-- before segment k: v₀ and t₀ were the values and the trail where the pass began
pub record Scanning (ws starts set v₀ t₀ : List ℕ) (start : ℕ) (v t : List ℕ) (count k : ℕ) : Type 0 where
  pub worked : Worked (clauses_in ws) v₀ t₀ start v t false count
  pub passed : (c : List ℕ) → Memᴰ c (clauses_in ws) → SettledOr v worked.grown.new c ⊎ Due ws starts set k c

module _ {ws starts set v₀ t₀ : List ℕ} {start : ℕ} (ready : Ready (clauses_in ws) v₀ t₀ start) where
  pub scanning : SettledOrDue ws starts set v₀ → Scanning ws starts set v₀ t₀ start v₀ t₀ start 0
  scanning s = record { worked = worked-none ready; passed = λ c m. go c (s c m) }
    where
      go : (c : List ℕ) → Settled v₀ c ⊎ Due ws starts set 0 c → SettledOr v₀ (worked-none ready).grown.new c ⊎ Due ws starts set 0 c
      go c (inl p) = inl (inl p)
      go c (inr d) = inr d

  module _ {v t : List ℕ} {count k : ℕ} (i : Scanning ws starts set v₀ t₀ start v t count k) where
    pub scan-values : length v ≡ length v₀
    scan-values = worked-length ready i.worked

    -- all segments are passed
    pub scan_end : 1024 ≤ k → OnePass (clauses_in ws) v₀ t₀ start v t false count
    scan_end h = record { worked = i.worked; waiting = λ _ c m. go c (i.passed c m) }
      where
        go : (c : List ℕ) → SettledOr v i.worked.grown.new c ⊎ Due ws starts set k c → SettledOr v i.worked.grown.new c
        go c (inl s) = s
        go c (inr d) = absurd (omega (arith, d.later, d.few, h))

    -- the segment is not one of the set
    pub scan-past : has set (k / 64) (k % 64) ≡ false → Scanning ws starts set v₀ t₀ start v t count (k + 1)
    scan-past e = record { worked = i.worked; passed = λ c m. go c (i.passed c m) }
      where
        beyond : (c : List ℕ) (d : Due ws starts set k c) → Dec (d.number ≡ k) → k + 1 ≤ d.number
        beyond c d (yes q) = absurd (true≢false (sym (has_of set (k / 64) (k % 64) (subst (λ (n : ℕ). Bit (get_or set (n / 64) 0) (n % 64)) q d.due)) ∙ e))
        beyond c d (no q) = omega (arith, d.later)

        go : (c : List ℕ) → SettledOr v i.worked.grown.new c ⊎ Due ws starts set k c → SettledOr v i.worked.grown.new c ⊎ Due ws starts set (k + 1) c
        go c (inl s) = inl s
        go c (inr d) = inr (record { number = d.number; later = beyond c d (ℕ_discrete d.number k); few = d.few; has = d.has; due = d.due })

    -- the segment is passed over
    module _ (u : Cut ws starts) (h : k < 1024) where
      pub segment_ready : Ready (clauses_in (segment_of ws starts k)) v t count
      segment_ready = ready-part (clauses_in (segment_of ws starts k)) (clauses_in ws) (u.each k h).part (worked_on ready i.worked)

      module _ {w r : List ℕ} {more : ℕ} where
        pub segment_worked : {isBroken : Bool} → OnePass (clauses_in (segment_of ws starts k)) v t count w r isBroken more → Worked (clauses_in ws) v₀ t₀ start w r isBroken more
        segment_worked p = worked_trans i.worked (worked-part (clauses_in (segment_of ws starts k)) (clauses_in ws) (u.each k h).part p.worked)

        -- a clause of it is broken
        pub scan-broken : OnePass (clauses_in (segment_of ws starts k)) v t count w r true more → OnePass (clauses_in ws) v₀ t₀ start w r true more
        scan-broken p = record { worked = segment_worked p; waiting = λ b. absurd (true≢false b) }

        -- the set may gain segments
        pub scan_on :
            {more-set : List ℕ} → ((n : ℕ) → n < 1024 → Bit (get_or set (n / 64) 0) (n % 64) → Bit (get_or more-set (n / 64) 0) (n % 64))
            → OnePass (clauses_in (segment_of ws starts k)) v t count w r false more → Scanning ws starts more-set v₀ t₀ start w r more (k + 1)
        unfolding worked_trans worked-part grown_trans
        scan_on {more-set} kept p = record {
          worked = worked_trans i.worked (worked-part (clauses_in (segment_of ws starts k)) (clauses_in ws) (u.each k h).part p.worked);
          passed = λ c m. go c (i.passed c m);
        }
          where
            pick : (c : List ℕ) (d : Due ws starts set k c) → Dec (d.number ≡ k) → SettledOr w (i.worked.grown.new ++ p.worked.grown.new) c ⊎ Due ws starts more-set (k + 1) c
            pick c d (yes q) = inl (settled_or_behind i.worked.grown.new (p.waiting refl c (subst (λ (n : ℕ). Memᴰ c (clauses_in (segment_of ws starts n))) q d.has)))
            pick c d (no q) = inr (record { number = d.number; later = omega (arith, d.later); few = d.few; has = d.has; due = kept d.number d.few d.due })

            go : (c : List ℕ) → SettledOr v i.worked.grown.new c ⊎ Due ws starts set k c → SettledOr w (i.worked.grown.new ++ p.worked.grown.new) c ⊎ Due ws starts more-set (k + 1) c
            go c (inl s) = inl (settled_or_more p.worked.grown.new (grown-same p.worked.grown) s)
            go c (inr d) = pick c d (ℕ_discrete d.number k)
