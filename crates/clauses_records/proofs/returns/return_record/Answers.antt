-- `clauses_records::returns::return_record` meets its contract: the states so far have their clauses. Assumes nothing.
use native.Mathlib.Omega.{arith}
use Rattle.clauses_emit.proofs.Stepping.{over-all, over_on, over_done}
use Rattle.table_index.proofs.Blocks.{placed}
use Rattle.clauses_records.proofs.Walking.{equal_range_kept}
use Rattle.clauses_records.proofs.Returning.{of_word}
use Rattle.clauses_records.proofs.returns.return_record.Goals as goal

pub states-init : goal.states-init
states-init c = over-all _ _ _

pub block-found-requires : goal.block-found-requires
block-found-requires c =
    (omega arith, c.requires.0, placed c.requires.1 c.states-test.true c.requires.2, omega (arith, c.states-test.true, c.requires.3), c.requires.2)

pub return_tops-at-requires : goal.return_tops-at-requires
return_tops-at-requires c =
    equal_range_kept _ c.block-found.result.now c.requires.0 c.block-found.ensures

pub states-preserved : goal.states-preserved
states-preserved c =
    over_on c.states.invariant c.states-test.true (of_word c.args.section.now c.block-found.result.now c.args.x c.states.q c.block-found.ensures c.args.tops.now c.args.count _ c.from.ensures c.return_tops-at.ensures)

pub shape_of-list : goal.shape_of-list
shape_of-list c = c.states.invariant.coming.long

pub returns : goal.returns
returns c = over_done c.states.invariant c.states-test.false
