-- The answer to a script by cases: the table is not read, the script is refused, or it is read. Assumes nothing.
use mathlib.Core.Path.{◌≡◌, sym, ap, ◌∙◌}
use mathlib.Core.Bool.{Bool}
use mathlib.Core.List.{List}
use Prim.Native.Nat.{ℕ}
use Rattle.std.specs.Prelude.{Result, Ok, Err}
use Rattle.lists.specs.Lists.{first_failed}
use Rattle.lists.proofs.Refusals.{stage-passes, stage_fails, stage-passed}
use Rattle.limits.specs.declared.Limits.{Limits}
use Rattle.refusals.specs.declared.Refusal.{Refusal}
use Rattle.refusals.specs.Refusals.{number_of, refusal}
use Rattle.refusals.proofs.Numbers.{some_number, refused_by, refused_at, ok_by}
use Rattle.table_spec.specs.File.{Table, table_of}
use Rattle.table_spec.specs.Reading.{read_number, Readable}
use Rattle.script_spec.specs.Script.{reads, started, script_tests, script_number, answer_by, script_of}

module _ (k : ℕ) (t : Table) (w : List ℕ) where
  pub told : {r : Bool} → k ≡ 0 → r ≡ reads t (started t) w → Ok r ≡ answer_by k t w
  unfolding answer_by
  told z e = ap {B = Result Bool Refusal} (λ r. Ok r) e ∙ ok_by _ z

  pub refused : {r : Refusal} → k ≡ number_of r → Err r ≡ answer_by k t w
  unfolding answer_by
  refused e = refused_by _ e

  pub refused-any : (k ≡ 0 → ⊥) → Err (refusal k) ≡ answer_by k t w
  unfolding answer_by
  refused-any n = refused_at _ n

module _ (L : Limits) (b w : List ℕ) where
  pub number_read : Readable L b → script_number L b w ≡ first_failed (script_tests (table_of b).symbols w)
  unfolding script_number
  number_read e = stage-passes _ _ e

  pub number_unread : (r : Refusal) → read_number L b ≡ number_of r → script_number L b w ≡ number_of r
  unfolding script_number
  number_unread r e = stage_fails _ _ e (some_number r)

  -- what is not refused was read
  pub number-readable : script_number L b w ≡ 0 → Readable L b
  unfolding script_number
  number-readable e = (stage-passed _ _ e).0

  pub script_read : {r : Result Bool Refusal} → Readable L b → r ≡ answer_by (first_failed (script_tests (table_of b).symbols w)) (table_of b) w → r ≡ script_of L b w
  unfolding script_of
  script_read e f = f ∙ ap (λ k. answer_by k (table_of b) w) (sym (number_read e))

  pub script_unread : {r : Refusal} → read_number L b ≡ number_of r → Err r ≡ script_of L b w
  unfolding script_of
  script_unread {r} e = refused _ (table_of b) w (number_unread r e)
