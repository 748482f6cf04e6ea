-- `sat_trail::rows::own_rows` meets its contract. Assumes nothing.
use Rattle.sat_trail.proofs.Setting as laws
use Rattle.sat_trail.proofs.rows.own_rows.Goals as goal

pub states-preserved : goal.states-preserved
states-preserved c = laws.own_on c.states.invariant c.states-test.true c.bit.ensures

pub returns : goal.returns
returns c = laws.own_end c.states.invariant c.states-test.false
