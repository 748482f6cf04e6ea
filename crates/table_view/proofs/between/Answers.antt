-- `table_view::between` meets its contract: each way out hands back the bytes between the two places. Assumes nothing.
use Rattle.table_view.proofs.Parts.{past_end, ends-first, up_to_end, inside}
use Rattle.table_view.proofs.between.Goals as goal

pub returns-then-length-from : goal.returns-then-length-from
returns-then-length-from c =
    past_end c.args.from c.args.to c.args.bytes.now c.if-length-from.true

pub returns-then-to-from : goal.returns-then-to-from
returns-then-to-from c = ends-first _ _ _ c.if-to-from.true

pub returns-then-length-to : goal.returns-then-length-to
returns-then-length-to c = up_to_end _ _ _ c.if-length-from.false c.if-length-to.true

pub returns : goal.returns
returns c = inside _ _ _ c.if-to-from.false
