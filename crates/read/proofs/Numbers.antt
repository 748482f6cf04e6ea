-- The numbers that reading answers, one law for each way to a return of src/. Assumes nothing.
use mathlib.Core.Path.{◌≡◌, sym, ap, subst, ◌∙◌}
use mathlib.Core.Bool.{true, false, ◌&&◌}
use mathlib.Core.List.{List}
use Prim.Native.Nat.{ℕ, ◌+◌, ◌-◌, ◌*◌, ◌%◌, ◌≤◌, ◌<◌}
use native.Mathlib.Nat.{add-zero}
use native.Mathlib.Omega.{arith}
use lib.ListN.{length, take, drop}
use lib.Seq.{slice}
use lib.Dec.{eqb, leb}
use borrow.Author.Tests.{lt-leb, le-leb, eq-eqb, ne_eqb}
use Rattle.std.specs.Prelude.{Ok, Err}
use Rattle.lists.specs.Lists.{first_failed}
use Rattle.lists.proofs.Members.{and_of}
use Rattle.lists.proofs.Refusals.{passes, fails}
use Rattle.limits.specs.Limits.{limits_fit}
use Rattle.limits.proofs.Within.{limits-within}
use Rattle.limits.specs.declared.Limits.{Limits}
use Rattle.refusals.specs.declared.Refusal.{Refusal}
use Rattle.refusals.specs.declared.Refusal.TheVariants.{Length, Version, Distances, LimitsRange}
use Rattle.refusals.specs.Refusals.{number_of, Known, tested}
use Rattle.refusals.proofs.Numbers.{refused_by, ok_by, was_ok, was_refused}
use Rattle.table_spec.specs.Limits.{longest}
use Rattle.table_spec.specs.File.{Table, word16, trailer, distance, version, start, table_of}
use Rattle.table_spec.specs.Reading.{length_fits, version_fits, distances_fit, table_tests, read_number, starts_of, read_of}
use Rattle.table_spec.specs.declared.Starts.{Starts}
use Rattle.table_spec.proofs.Passed.{distances_framed, read-known}
use Rattle.table_view.specs.Sections.{sectioned}
use Rattle.table_view.proofs.Parts.{part}

-- ---- 2: the version

pub version-at : (b : List ℕ) → 12 ≤ length b → word16 b (length b - 2) ≡ version b
unfolding version trailer
version-at b h = let e : length b - 2 ≡ length b - 12 + 10 = omega arith in ap (word16 b) e

-- ---- 3: distances

pub trailer_end : (b : List ℕ) (end : ℕ) → end + 12 ≡ length b → trailer b ≡ end
unfolding trailer
trailer_end b end h = omega arith

-- the distances, as the code reads them
pub distance-at : (b : List ℕ) (end : ℕ) → end + 12 ≡ length b → (k : ℕ) → distance b k ≡ word16 b (end + 2 * k)
unfolding distance
distance-at b end h k = ap (λ n. word16 b (n + 2 * k)) (trailer_end b end h)

distance-first : (b : List ℕ) (end : ℕ) → end + 12 ≡ length b → distance b 0 ≡ word16 b end
distance-first b end h = distance-at b end h 0 ∙ ap (word16 b) (add-zero end)

pub record Words (b : List ℕ) (end d0 d1 d2 d3 d4 : ℕ) : Type 0 where
  pub at_end : end + 12 ≡ length b
  pub word_0 : d0 ≡ word16 b end
  pub word_1 : d1 ≡ word16 b (end + 2)
  pub word_2 : d2 ≡ word16 b (end + 4)
  pub word_3 : d3 ≡ word16 b (end + 6)
  pub word_4 : d4 ≡ word16 b (end + 8)

module _ {b : List ℕ} {end d0 d1 d2 d3 d4 : ℕ} (w : Words b end d0 d1 d2 d3 d4) where
  pub distances : distances_fit b ≡ eqb d0 end && leb d1 d0 && leb d2 d1 && leb d3 d2 && leb d4 d3 && eqb ((d2 - d3) % 3) 0 && eqb ((d3 - d4) % 3) 0 && eqb (d4 % 4) 0
  unfolding distances_fit
  distances =
      let e0 = distance-first b end w.at_end ∙ sym w.word_0 in
      let e1 = distance-at b end w.at_end 1 ∙ sym w.word_1 in
      let e2 = distance-at b end w.at_end 2 ∙ sym w.word_2 in
      let e3 = distance-at b end w.at_end 3 ∙ sym w.word_3 in
      let e4 = distance-at b end w.at_end 4 ∙ sym w.word_4 in
      let t = trailer_end b end w.at_end in
      λ i. eqb (e0 i) (t i) && leb (e1 i) (e0 i) && leb (e2 i) (e1 i) && leb (e3 i) (e2 i) && leb (e4 i) (e3 i) && eqb ((e2 i - e3 i) % 3) 0 && eqb ((e3 i - e4 i) % 3) 0 && eqb (e4 i % 4) 0

-- ---- the starts

-- no distance leads before the file
pub record NoneBefore (b : List ℕ) (end : ℕ) : Type 0 where
  pub within_0 : word16 b end ≤ end
  pub within_1 : word16 b (end + 2) ≤ end
  pub within_2 : word16 b (end + 4) ≤ end
  pub within_3 : word16 b (end + 6) ≤ end
  pub within_4 : word16 b (end + 8) ≤ end

pub within : (b : List ℕ) (end : ℕ) → end + 12 ≡ length b → distances_fit b ≡ true → NoneBefore b end
within b end h e =
    let f = distances_framed b e in
    let t = trailer_end b end h in
    let e0 = distance-first b end h in
    let e1 = distance-at b end h 1 in
    let e2 = distance-at b end h 2 in
    let e3 = distance-at b end h 3 in
    let e4 = distance-at b end h 4 in
    record { within_0 = omega arith; within_1 = omega arith; within_2 = omega arith; within_3 = omega arith; within_4 = omega arith }

pub starts-are : {b : List ℕ} {end d0 d1 d2 d3 d4 : ℕ} → Words b end d0 d1 d2 d3 d4
    → ◌≡◌ {A = Starts} (record { symbols = end - d0; states = end - d1; internals = end - d2; calls = end - d3; returns = end - d4 }) (starts_of b)
unfolding starts_of start
starts-are {b} {end} w =
    let t = sym (trailer_end b end w.at_end) in
    let e0 = w.word_0 ∙ sym (distance-first b end w.at_end) in
    let e1 = w.word_1 ∙ sym (distance-at b end w.at_end 1) in
    let e2 = w.word_2 ∙ sym (distance-at b end w.at_end 2) in
    let e3 = w.word_3 ∙ sym (distance-at b end w.at_end 3) in
    let e4 = w.word_4 ∙ sym (distance-at b end w.at_end 4) in
    λ i. record { symbols = t i - e0 i; states = t i - e1 i; internals = t i - e2 i; calls = t i - e3 i; returns = t i - e4 i }

-- ---- the sections, as parts of the file

-- each section begins where the one before it ends
pub record Follow (b : List ℕ) (s : Starts) (end : ℕ) : Type 0 where
  pub symbols : s.symbols ≤ s.states
  pub states : s.states ≤ s.internals
  pub internals : s.internals ≤ s.calls
  pub calls : s.calls ≤ s.returns
  pub returns : s.returns ≤ end
  pub last : end ≤ length b

next_start : (e : ℕ) {p q x y : ℕ} → p ≡ e - x → q ≡ e - y → y ≤ x → p ≤ q
next_start e h k l = omega arith

pub follow : (b : List ℕ) (s : Starts) (end : ℕ) → end + 12 ≡ length b → distances_fit b ≡ true → s ≡ starts_of b → Follow b s end
unfolding starts_of start
follow b s end h d e =
    let f = distances_framed b d in
    let t = trailer_end b end h in
    let s0 = ap (λ (s : Starts). s.symbols) e in
    let s1 = ap (λ (s : Starts). s.states) e in
    let s2 = ap (λ (s : Starts). s.internals) e in
    let s3 = ap (λ (s : Starts). s.calls) e in
    let s4 = ap (λ (s : Starts). s.returns) e in
    record {
      symbols = next_start (trailer b) s0 s1 f.falls_1;
      states = next_start (trailer b) s1 s2 f.falls_2;
      internals = next_start (trailer b) s2 s3 f.falls_3;
      calls = next_start (trailer b) s3 s4 f.falls_4;
      returns = omega (arith, s4, t);
      last = omega (arith, h);
    }

pub sections_are : (b : List ℕ) (s : Starts) (end : ℕ) → end + 12 ≡ length b → distances_fit b ≡ true → s ≡ starts_of b → {v : ℕ} → v ≡ version b
    → sectioned v (take (s.states - s.symbols) (drop s.symbols b)) (take (s.internals - s.states) (drop s.states b)) (take (s.calls - s.internals) (drop s.internals b)) (take (s.returns - s.calls) (drop s.calls b)) (take (end - s.returns) (drop s.returns b))
    ≡ table_of b
unfolding sectioned table_of starts_of
sections_are b s end h d e {v} g = parts ∙ (λ i. at-starts (g i) (e i) (sym (trailer_end b end h) i))
  where
    f : Follow b s end
    f = follow b s end h d e

    at-starts : ℕ → Starts → ℕ → Table
    at-starts v u e = sectioned v (slice u.symbols u.states b) (slice u.states u.internals b) (slice u.internals u.calls b) (slice u.calls u.returns b) (slice u.returns e b)

    parts : sectioned v (take (s.states - s.symbols) (drop s.symbols b)) (take (s.internals - s.states) (drop s.states b)) (take (s.calls - s.internals) (drop s.internals b)) (take (s.returns - s.calls) (drop s.calls b)) (take (end - s.returns) (drop s.returns b)) ≡ at-starts v s end
    parts =
        λ i. sectioned v (part s.symbols s.states b f.symbols i) (part s.states s.internals b f.states i) (part s.internals s.calls b f.internals i) (part s.calls s.returns b f.calls i) (part s.returns end b f.returns i)

-- ---- the answer

refused : (L : Limits) (b : List ℕ) {r : Refusal} → read_number L b ≡ number_of r → Err r ≡ read_of L b
unfolding read_of
refused L b e = refused_by (starts_of b) e

-- the longest file, as the code sums it up
pub long_file : (L : Limits) → L.symbols + L.states + 22540 ≡ longest L
unfolding longest
long_file L = omega arith

pub file_within : (L : Limits) → limits_fit L ≡ true → L.symbols + L.states ≤ 104
file_within L e = omega (arith, limits-within e)

pub limits_refused : (L : Limits) (b : List ℕ) → limits_fit L ≡ false → Err LimitsRange ≡ read_of L b
unfolding read_number
limits_refused L b h = refused L b (fails 39 _ h)

module _ (L : Limits) (fit : limits_fit L ≡ true) (b : List ℕ) where
  pub file_short : length b < 12 → Err Length ≡ read_of L b
  unfolding read_number length_fits
  file_short h = refused L b (passes 39 _ fit ∙ fails 1 _ (rw (lt-leb _ _ h)))

  module _ (p : 12 ≤ length b) where
    pub file_long : longest L < length b → Err Length ≡ read_of L b
    unfolding read_number length_fits
    file_long h = refused L b (passes 39 _ fit ∙ fails 1 _ (rw (le-leb _ _ p, lt-leb _ _ h)))

    module _ (q : length b ≤ longest L) where
      length-passes : length_fits L b ≡ true
      unfolding length_fits
      length-passes = and_of (le-leb _ _ p) (le-leb _ _ q)

      pub file_version : version_fits (version b) ≡ false → Err Version ≡ read_of L b
      unfolding read_number
      file_version h = refused L b (passes 39 _ fit ∙ passes 1 _ length-passes ∙ fails 2 _ h)

      module _ (v : version_fits (version b) ≡ true) where
        pub file_distances : distances_fit b ≡ false → Err Distances ≡ read_of L b
        unfolding read_number
        file_distances h = refused L b (passes 39 _ fit ∙ passes 1 _ length-passes ∙ passes 2 _ v ∙ fails 3 _ h)

        module _ (d : distances_fit b ≡ true) where
          table_decides : read_number L b ≡ first_failed (table_tests L (table_of b))
          unfolding read_number
          table_decides = passes 39 _ fit ∙ passes 1 _ length-passes ∙ passes 2 _ v ∙ passes 3 _ d

          table-known : Known (first_failed (table_tests L (table_of b)))
          table-known = subst Known table_decides (read-known L b)

          pub table_refused : {r : Refusal} → tested (first_failed (table_tests L (table_of b))) ≡ Err r → Err r ≡ read_of L b
          table_refused e = refused L b (table_decides ∙ was_refused tt table-known e)

          pub table_read : {s : Starts} → tested (first_failed (table_tests L (table_of b))) ≡ Ok tt → s ≡ starts_of b → Ok s ≡ read_of L b
          unfolding read_of
          table_read e f = ap (λ (s : Starts). Ok s) f ∙ ok_by (starts_of b) (table_decides ∙ (was_ok tt e).0)
