-- `sat_trail::rows::own_rows` meets its contract. The loop's invariant: the states below p have their words. Assumes nothing.
use Rattle.sat_trail.proofs.Setting as laws
use Rattle.sat_trail.proofs.rows.own_rows.Given as goal

abbrev pub invariant-states : goal.invariant-states
invariant-states l = laws.OwnTo l.words l.p
