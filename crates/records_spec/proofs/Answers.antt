-- The operation's answer: refused as the check refuses the map, or by 21, or counted; and what it promises. Assumes nothing.
use mathlib.Core.Path.{◌≡◌, refl, sym, ap, ◌∙◌, subst}
use mathlib.Core.List.{List}
use Prim.Native.Nat.{ℕ, ◌≤◌, ◌<◌}
use lib.ListN.{length, take, drop}
use lib.Seq.{take_at}
use borrow.Author.Tests.{le-leb, lt-leb}
use Rattle.std.specs.Prelude.{Result, Ok, Err}
use Rattle.lists.specs.Lists.{over}
use Rattle.lists.proofs.Refusals.{fails, passes, no_test, stage-passes, stage_fails, stage-passed, not_refused, by_number, says}
use Rattle.limits.specs.declared.Limits.{Limits}
use Rattle.refusals.specs.declared.Refusal.{Refusal}
use Rattle.refusals.specs.declared.Refusal.TheVariants.{OutputLength}
use Rattle.refusals.specs.Refusals.{number_of, refusal, Known, number_in, values_in}
use Rattle.refusals.proofs.Numbers.{some_number, refuses_by, known_of, failed_known, none_known}
use Rattle.table_spec.specs.File.{table_of}
use Rattle.table_spec.proofs.Bytes.{read_well_formed}
use Rattle.check_spec.specs.Check.{check_number}
use Rattle.check_spec.proofs.Accepted.{accepted}
use Rattle.check_spec.proofs.Answers.{check-known}
use Rattle.quotient_spec.proofs.Theorems.{quotient_table_lem}
use Rattle.records_spec.specs.declared.Counts.{Counts}
use Rattle.records_spec.specs.Fates.{fates_of, record_count, counts_of, records_number, RecordsDone, records_of, count_values, RecordsSays}
use Rattle.records_spec.specs.Demands.{whole_fates, Promises}
use Rattle.records_spec.proofs.Counting.{one_each, add_up, kept-quotient}
use Rattle.records_spec.proofs.Whole.{whole_fates_lem}

module _ (L : Limits) (b m out : List ℕ) where
  -- the two ways to end
  abbrev told : RecordsDone
  told = record { answer = Ok (counts_of (table_of b) m); out = over (fates_of (table_of b) m) out }

  abbrev refused : Refusal → RecordsDone
  refused r = record { answer = Err r; out = out }

  refused_by_lem : {r : Refusal} → records_number L b m out ≡ number_of r → record { answer = Err r; out = out } ≡ records_of L b m out
  unfolding records_of
  refused_by_lem e = refuses_by refused told e

  -- "those of the check" come first
  pub records_refused : {r : Refusal} {x : Result Counts Refusal} → x ≡ Err r → check_number L b m ≡ number_of r → record { answer = x; out = out } ≡ records_of L b m out
  unfolding records_number
  records_refused {r} p e = (λ i. record { answer = p i; out = out }) ∙ refused_by_lem (stage_fails _ _ e (some_number r))

  module _ (e : check_number L b m ≡ 0) where
    -- "then 21 under N bytes"
    pub records-short : length out < record_count (table_of b) → record { answer = Err OutputLength; out = out } ≡ records_of L b m out
    unfolding records_number
    records-short h = refused_by_lem (stage-passes _ _ e ∙ fails 21 _ (lt-leb (record_count (table_of b)) (length out) h))

    pub records_told : {r : Counts} {now : List ℕ} → record_count (table_of b) ≤ length out → r ≡ counts_of (table_of b) m → now ≡ over (fates_of (table_of b) m) out
        → record { answer = Ok r; out = now } ≡ records_of L b m out
    unfolding records_of records_number
    records_told h p q =
        (λ j. record { answer = Ok (p j); out = q j }) ∙ not_refused _ told _ (stage-passes _ _ e ∙ passes 21 _ (le-leb (record_count (table_of b)) (length out) h) ∙ no_test)

  -- ---- what is promised

  -- the bytes that are written, by the whole file
  marked : check_number L b m ≡ 0 → take (record_count (table_of b)) (over (fates_of (table_of b) m) out) ≡ whole_fates (table_of b) m
  unfolding over
  marked e =
      let fates = fates_of (table_of b) m in
      take_at fates (drop (length fates) out) (record_count (table_of b)) (one_each (table_of b) m) ∙ sym (whole_fates_lem (read_well_formed L b (accepted L b m e).readable) m)

  counted : check_number L b m ≡ 0 → Promises b m (Ok (counts_of (table_of b) m)) (over (fates_of (table_of b) m) out)
  unfolding counts_of
  counted e =
      let a = accepted L b m e in
      let k = kept-quotient (table_of b) m in
      record { counts = λ _. add_up (table_of b) m; kept = λ _. (k, k ∙ ap record_count (sym (quotient_table_lem L b m a.readable a.proper))); all = λ _. refl; earlier = λ _. marked e }

  number-checked : records_number L b m out ≡ 0 → check_number L b m ≡ 0
  unfolding records_number
  number-checked e = (stage-passed _ _ e).0

  promises : Promises b m (records_of L b m out).answer (records_of L b m out).out
  unfolding records_of
  promises = by_number (records_number L b m out) told (refused (refusal (records_number L b m out))) (λ (d : RecordsDone). Promises b m d.answer d.out) (λ z. counted (number-checked z)) (λ _. let n = some_number (refusal (records_number L b m out)) in record { counts = λ e. absurd (n e); kept = λ e. absurd (n e); all = λ e. absurd (n e); earlier = λ e. absurd (n e) })

  records-known : Known (records_number L b m out)
  unfolding records_number
  records-known = failed_known _ _ (check-known L b m) (failed_known _ _ (known_of OutputLength) none_known)

  numbered : RecordsSays L b m out (records_of L b m out).answer
  unfolding records_of counts_of
  numbered = says (records_number L b m out) told (refused (refusal (records_number L b m out))) (λ (d : RecordsDone). number_in d.answer) (λ (d : RecordsDone). values_in count_values d.answer) refl refl records-known refl

  pub promised : {r : Result Counts Refusal} {now : List ℕ} → record { answer = r; out = now } ≡ records_of L b m out
      → (record { answer = r; out = now } ≡ records_of L b m out) × (RecordsSays L b m out r × Promises b m r now)
  promised e = (e, subst (λ (d : RecordsDone). RecordsSays L b m out d.answer × Promises b m d.answer d.out) (sym e) (numbered, promises))
