-- Where the records went, for the program: nothing is refused of a map that the check accepts, as there is room for as many records as a table has.
-- Assumes nothing.
use mathlib.Core.Path.{◌≡◌, refl, sym, ap, ◌∙◌, subst}
use mathlib.Core.List.{List, ◌++◌}
use Prim.Native.Nat.{ℕ, ◌+◌, ◌≤◌}
use native.Mathlib.Omega.{arith}
use lib.ListN.{length, take, replicate, length-replicate}
use Rattle.std.specs.Prelude.{Result, Ok, Err}
use Rattle.limits.specs.declared.Limits.{Limits}
use Rattle.refusals.specs.declared.Refusal.{Refusal}
use Rattle.refusals.specs.Refusals.{number_of}
use Rattle.table_spec.specs.File.{table_of}
use Rattle.table_spec.specs.Reading.{Readable}
use Rattle.table_spec.specs.Language.{count}
use Rattle.table_spec.proofs.Bytes.{read_well_formed}
use Rattle.table_spec.proofs.Passed.{formed_tested}
use Rattle.check_spec.specs.Check.{check_number}
use Rattle.check_spec.proofs.Accepted.{accepted}
use Rattle.check_spec.proofs.Answers.{passes-number}
use Rattle.records_spec.specs.declared.Counts.{Counts}
use Rattle.records_spec.specs.Fates.{record_count, counts_of, RecordsDone, records_of}
use Rattle.records_spec.proofs.Answers.{records_told}
use Rattle.reduce_spec.specs.declared.Reduction.{Reduction}
use Rattle.reduce_spec.specs.Reduce.{reduce_of}
use Rattle.reduce_spec.specs.Demands.{map_written, DeliversChecked}
use Rattle.print_spec.specs.Program.{widest}
use Rattle.print_spec.specs.Text.{going_text, reduction_text, reduced_text, printed}
use Rattle.print_spec.specs.Lines.{counts_text, map_text, table_text, refused_text}

module _ (L : Limits) (b m : List ℕ) (e : check_number L b m ≡ 0) where
  records-few : record_count (table_of b) ≤ 6144
  unfolding record_count
  records-few = let t = formed_tested (read_well_formed L b (accepted L b m e).readable) in omega (arith, t.internals-few, t.calls-few, t.returns-few)

  pub going_told : {r : Result Counts Refusal} {out : List ℕ} → record { answer = r; out = out } ≡ records_of L b m (replicate 6144 0) → r ≡ Ok (counts_of (table_of b) m)
  going_told f = ap (λ (d : RecordsDone). d.answer) (f ∙ sym (records_told L b m (replicate 6144 0) e (omega (arith, records-few, length-replicate {A = ℕ} 6144 0)) refl refl))

-- the map of a delivery is one that the check accepts
pub delivered_checked : (L : Limits) (b map : List ℕ) {r : Result Reduction Refusal} {d : Reduction} → r ≡ Ok d → DeliversChecked L r b map → check_number L b (map_written b map) ≡ 0
delivered_checked L b map f d = passes-number L b (map_written b map) (subst (λ (x : Result Reduction Refusal). DeliversChecked L x b map) f d refl).numbered

-- .. as the program takes it from the buffer
pub map-checked : (L : Limits) (b map : List ℕ) {n : ℕ} → (Readable L b → n ≡ count (table_of b)) → check_number L b (map_written b map) ≡ 0 → (n ≡ count (table_of b)) × (check_number L b (take n map) ≡ 0)
map-checked L b map {n} f e =
    let k : n ≡ count (table_of b) = f (accepted L b (map_written b map) e).readable in
    (k, ap (λ i. check_number L b (take i map)) k ∙ e)

-- the text of a delivery, and of a refusal
module _ (b : List ℕ) {r : Result Reduction Refusal} {list map out : List ℕ} (e : record { answer = r; list = list; map = map; out = out } ≡ reduce_of widest b 100000 (replicate 32768 0) (replicate 40 0) (replicate 22644 0)) where
  answer_text : reduction_text b r map out ≡ printed b
  unfolding printed
  answer_text = ap (reduced_text b) e

  pub delivered_text : {d : Reduction} {n : ℕ} → r ≡ Ok d → n ≡ count (table_of b)
      → counts_text n d.classes d.guesses d.words d.joined d.ceiling d.spent ++ map_text (take n map) ++ table_text (take d.length out) ++ going_text b (take n map) ≡ printed b
  delivered_text {d} {n} f k =
      ap (λ i. counts_text i d.classes d.guesses d.words d.joined d.ceiling d.spent ++ map_text (take i map) ++ table_text (take d.length out) ++ going_text b (take i map)) k
      ∙ ap (λ (x : Result Reduction Refusal). reduction_text b x map out) (sym f) ∙ answer_text

  pub refused_text_lem : {k : Refusal} → r ≡ Err k → refused_text (number_of k) ≡ printed b
  refused_text_lem f = ap (λ (x : Result Reduction Refusal). reduction_text b x map out) (sym f) ∙ answer_text
