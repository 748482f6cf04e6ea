-- `season::take_turn` meets its contract: the row of what reduce answers, and what it took. Assumes nothing.
use Rattle.season.proofs.Turning.{turn_delivered, turn_refused}
use Rattle.season.proofs.take_turn.Goals as goal

pub returns-in-Ok : goal.returns-in-Ok
returns-in-Ok c =
    turn_delivered c.args.limits c.args.table.now c.args.budget c.args.list.now c.args.map.now c.args.out.now c.reduce_within-answer.ensures.answers c.in-Ok.is c.yes_value.ensures c.state_count.ensures.states

pub returns-in-Err : goal.returns-in-Err
returns-in-Err c =
    turn_refused c.args.limits c.args.table.now c.args.budget c.args.list.now c.args.map.now c.args.out.now c.reduce_within-answer.ensures.answers c.in-Err.is c.from.ensures
