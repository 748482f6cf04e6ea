-- `records::records_accepted` meets its contract: a table whose map the check accepts is readable, and told. Assumes nothing.
use mathlib.Core.Path.{◌≡◌, ◌∙◌, ap, sym, subst}
use mathlib.Core.List.{List}
use Prim.Native.Nat.{ℕ}
use Rattle.std.specs.Borrow.{Bor}
use Rattle.lists.specs.Lists.{first_failed}
use Rattle.refusals.proofs.Numbers.{passed_up}
use Rattle.table_spec.specs.File.{table_of}
use Rattle.check_spec.specs.Check.{map_tests}
use Rattle.check_map.proofs.Checking.{unread}
use Rattle.records_spec.specs.Fates.{fates_of}
use Rattle.records_spec.proofs.Answers.{records_refused}
use Rattle.records.specs.Told.{told_for}
use Rattle.records.proofs.Handed.{accepted-tests, told_known}
use Rattle.records.proofs.records_accepted.Goals as goal

pub tell_read-requires : goal.tell_read-requires
tell_read-requires c =
    ap (λ (t : Bor (List ℕ)). first_failed (map_tests (table_of t.now) c.args.map.now)) c.in_ok-examined.ensures.ok.0 ∙ accepted-tests _ _ _ c.requires

pub returns : goal.returns
returns c =
    c.tell_read.ensures
    ∙ ap (λ (t : Bor (List ℕ)). told_for (fates_of (table_of t.now) c.args.map.now) c.args.out.now) c.in_ok-examined.ensures.ok.0
    ∙ told_known _ _ _ _ c.requires

pub returns-in_err-examined : goal.returns-in_err-examined
returns-in_err-examined c = records_refused _ _ _ _ (passed_up c.from_residual.ensures) (unread _ _ _ _ c.in_err-examined.ensures.err)
