-- `sat_trail::rows::assign` meets its contract. Assumes nothing.
use Rattle.sat_trail.proofs.Setting as laws
use Rattle.sat_trail.proofs.rows.assign.Goals as goal

pub returns-then-n-eq0 : goal.returns-then-n-eq0
returns-then-n-eq0 c = laws.assigned-none c.requires.1.rows c.from.ensures c.if-n-eq0.true

pub mark_pair-requires : goal.mark_pair-requires
mark_pair-requires c =
    laws.pair-states c.requires.1.rows c.from.ensures (laws.pair_of_lem c.requires.1.rows c.requires.1.inside c.if-n-eq0.false c.requires.0 c.pair_of-pair.ensures)

pub returns : goal.returns
returns c =
    laws.assigned-marked c.requires.1.rows c.from.ensures (laws.pair_of_lem c.requires.1.rows c.requires.1.inside c.if-n-eq0.false c.requires.0 c.pair_of-pair.ensures) c.requires.1.unset c.requires.1.small c.mark_pair.ensures
