-- The sections of a table marked one after the other, and their counts. Assumes nothing.
use mathlib.Core.Path.{◌≡◌, refl, sym, ap, ◌∙◌, subst}
use mathlib.Core.List.{List, [], ◌++◌, append-nil}
use Prim.Native.Nat.{ℕ, ◌+◌, ◌-◌, ◌/◌, ◌<◌, ◌≤◌}
use native.Mathlib.Omega.{arith}
use lib.ListN.{length, take, drop, replicate, length-append, length-replicate}
use lib.Seq.{length-take-le, take-append_seam}
use borrow.Author.Tests.{le-leb, lt-leb}
use Rattle.lists.specs.Lists.{over}
use Rattle.lists.proofs.Members.{zeros}
use Rattle.lists.proofs.Copying.{length_over}
use Rattle.table_spec.specs.File.{records}
use Rattle.check_matching.specs.Matching.{kept}
use Rattle.table_write.proofs.Writing.{Writing, begun, written, part_room, part_put, finished}
use Rattle.refusals.specs.declared.Refusal.TheVariants.{OutputLength}
use Rattle.std.specs.Prelude.{Ok, Err}
use Rattle.records_spec.specs.Fates.{kept_mark, folded_mark, dead_mark, section_fates, having}
use Rattle.records_spec.proofs.Counting.{length_fates}
use Rattle.records_fates.specs.Marks.{UpTo, records_in}
use Rattle.records.specs.Told.{parted_fates, told_for}
use Rattle.records_fates.proofs.Spans.{records-count}

pub fresh-room : UpTo 0 (replicate 102400 0)
fresh-room = record { places = length-replicate {A = ℕ} 102400 0; small = λ k. omega (arith, zeros 102400 k) }

-- as many marks as records
pub marks-long : (w : ℕ) (s f m : List ℕ) → length (section_fates (kept f) m (records w s)) ≡ length s / w
marks-long w s f m = length_fates (kept f) m [] (records w s) ∙ records-count w s

module _ (i c r f m : List ℕ) where
  pub parted-long : length (parted_fates i c r f m) ≡ length i / 3 + length c / 3 + length r / 4
  parted-long =
      omega (
        arith,
        length-append (section_fates (kept f) m (records 3 i)) (section_fates (kept f) m (records 3 c) ++ section_fates (kept f) m (records 4 r)),
        length-append (section_fates (kept f) m (records 3 c)) (section_fates (kept f) m (records 4 r)),
        marks-long 3 i f m,
        marks-long 3 c f m,
        marks-long 4 r f m,
      )

  abbrev pub behind_calls : List ℕ
  behind_calls = section_fates (kept f) m (records 4 r)

  abbrev pub behind_internals : List ℕ
  behind_internals = section_fates (kept f) m (records 3 c) ++ behind_calls

  module _ (out : List ℕ) where
    pub short : length out < length i / 3 + length c / 3 + length r / 4 → record { answer = Err OutputLength; out = out } ≡ told_for (parted_fates i c r f m) out
    unfolding told_for
    short h = sym (rw (lt-leb (length (parted_fates i c r f m)) (length out) (omega (arith, parted-long)), told_for))

    -- each section is written after the one before it: what is still to be written
    pub internals_told : length i / 3 + length c / 3 + length r / 4 ≤ length out → {out' : List ℕ} → out' ≡ over (section_fates (kept f) m (records 3 i)) out
        → Writing behind_internals (over (parted_fates i c r f m) out) out' (length i / 3)
    internals_told h {out'} e =
        subst (λ (n : ℕ). Writing behind_internals (over (parted_fates i c r f m) out) out' n) (marks-long 3 i f m) (begun (section_fates (kept f) m (records 3 i)) out (omega (arith, parted-long)) refl e)

    -- .. and there is room for it
    pub calls-room : {end out1 : List ℕ} {at : ℕ} → Writing behind_internals end out1 at → records_in 3 c ≤ length (take (length out1 - at) (drop at out1))
    calls-room w = omega (arith, part_room (section_fates (kept f) m (records 3 c)) behind_calls w refl, length_fates (kept f) m [] (records 3 c))

    pub returns-room : {end out1 : List ℕ} {at : ℕ} → Writing behind_calls end out1 at → records_in 4 r ≤ length (take (length out1 - at) (drop at out1))
    returns-room w = omega (arith, part_room behind_calls [] w (sym (append-nil behind_calls)), length_fates (kept f) m [] (records 4 r))

    pub calls_told :
        {out1 ys : List ℕ} {at : ℕ} → Writing behind_internals (over (parted_fates i c r f m) out) out1 at
        → ys ≡ over (section_fates (kept f) m (records 3 c)) (take (length out1 - at) (drop at out1))
        → Writing behind_calls (over (parted_fates i c r f m) out) (take at out1 ++ (ys ++ drop (length out1 - at) (drop at out1))) (at + length c / 3)
    calls_told {out1} {ys} {at} w e = written (section_fates (kept f) m (records 3 c)) w refl (marks-long 3 c f m) (part_put (section_fates (kept f) m (records 3 c)) out1 at e)

    pub returns_told : {out1 ys : List ℕ} {at : ℕ} → Writing behind_calls (over (parted_fates i c r f m) out) out1 at → ys ≡ over behind_calls (take (length out1 - at) (drop at out1))
        → take at out1 ++ (ys ++ drop (length out1 - at) (drop at out1)) ≡ over (parted_fates i c r f m) out
    returns_told {out1} {ys} {at} w e = finished (written behind_calls w (sym (append-nil behind_calls)) (marks-long 4 r f m) (part_put behind_calls out1 at e))

    -- the marks are counted
    pub marks-there :
        length i / 3 + length c / 3 + length r / 4 ≤ length out → {out' : List ℕ} → out' ≡ over (parted_fates i c r f m) out
        → length i / 3 + length c / 3 + length r / 4 ≡ length (take (length i / 3 + length c / 3 + length r / 4) out')
    marks-there h {out'} e = sym (length-take-le (length i / 3 + length c / 3 + length r / 4) out' (omega (arith, ap length e, length_over (parted_fates i c r f m) out (omega (arith, parted-long)))))

    pub told : length i / 3 + length c / 3 + length r / 4 ≤ length out → {out' : List ℕ} {k d x : ℕ} → out' ≡ over (parted_fates i c r f m) out
        → k ≡ having kept_mark (take (length i / 3 + length c / 3 + length r / 4) out') → x ≡ having folded_mark (take (length i / 3 + length c / 3 + length r / 4) out') → d ≡ having dead_mark (take (length i / 3 + length c / 3 + length r / 4) out')
        → record { answer = Ok (record { all = length i / 3 + length c / 3 + length r / 4; kept = k; folded = x; dead = d }); out = out' } ≡ told_for (parted_fates i c r f m) out
    unfolding told_for over
    told h {out'} {k} {d} {x} e p q z =
        let marks : take (length i / 3 + length c / 3 + length r / 4) out' ≡ parted_fates i c r f m =
        ap (λ n. take n out') (sym parted-long) ∙ ap (take (length (parted_fates i c r f m))) e ∙ take-append_seam (parted_fates i c r f m) (drop (length (parted_fates i c r f m)) out) in
        sym (rw (le-leb (length (parted_fates i c r f m)) (length out) (omega (arith, parted-long)), told_for) (λ j. record {
          answer = Ok (record { all = parted-long j; kept = sym (p ∙ ap (having kept_mark) marks) j; folded = sym (q ∙ ap (having folded_mark) marks) j; dead = sym (z ∙ ap (having dead_mark) marks) j });
          out = sym e j;
        }))
