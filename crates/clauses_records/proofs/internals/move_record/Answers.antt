-- `clauses_records::internals::move_record` meets its contract: the states so far have their clauses. Assumes nothing.
use native.Mathlib.Omega.{arith}
use Rattle.clauses_emit.proofs.Stepping.{over-all, over_on, over_done}
use Rattle.table_index.proofs.Blocks.{placed}
use Rattle.clauses_records.proofs.internals.move_record.Goals as goal

pub states-init : goal.states-init
states-init c = over-all _ _ _

pub move_clause-at-requires : goal.move_clause-at-requires
move_clause-at-requires c =
    (c.requires.0, placed c.requires.1 c.states-test.true c.requires.3, omega (arith, c.states-test.true, c.requires.2), c.requires.3)

pub states-preserved : goal.states-preserved
states-preserved c =
    over_on c.states.invariant c.states-test.true c.move_clause-at.ensures

pub shape_of-list : goal.shape_of-list
shape_of-list c = c.states.invariant.coming.long

pub returns : goal.returns
returns c = over_done c.states.invariant c.states-test.false
