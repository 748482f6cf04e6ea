-- `capi::basilvault_tops_within` meets its contract: the answer as a number and values. Assumes nothing.
use mathlib.Core.Path.{refl, sym}
use native.Mathlib.Omega.{arith}
use lib.Seq.{length-take-le}
use Rattle.tops.proofs.Read.{read-handed}
use Rattle.capi.proofs.Answering.{tops-short, tops-stored, tops-none}
use Rattle.capi.proofs.basilvault_tops_within.Goals as goal

pub returns-then-values-lt41 : goal.returns-then-values-lt41
returns-then-values-lt41 c =
    record { answers = tops-short _ _ _ c.in-Ok.ensures.answers c.if-values-lt41.true }

pub slice_bounds-tops_read-end-in-Ok : goal.slice_bounds-tops_read-end-in-Ok
slice_bounds-tops_read-end-in-Ok c =
    sym (length-take-le 40 c.args.values.now (omega (arith, c.if-values-lt41.false)))

pub tops_read-found-requires : goal.tops_read-found-requires
tops_read-found-requires c =
    (read-handed _ _ c.in-Ok.ensures.answers, length-take-le 40 c.args.values.now (omega (arith, c.if-values-lt41.false)))

pub returns-else-values-lt41 : goal.returns-else-values-lt41
returns-else-values-lt41 c =
    record { answers = tops-stored _ _ _ c.in-Ok.ensures.answers (omega (arith, c.if-values-lt41.false)) c.tops_read-found.ensures refl }

pub returns-in-Err : goal.returns-in-Err
returns-in-Err c =
    record { answers = tops-none _ _ _ c.in-Err.ensures.answers c.from.ensures }
