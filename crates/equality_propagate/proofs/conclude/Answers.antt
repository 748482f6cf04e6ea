-- `equality_propagate::conclude` meets its contract: the variable is read as its pair. Assumes nothing.
use Rattle.sat_trail.specs.Rows.{PairAt}
use Rattle.sat_trail.proofs.Setting.{pair_of_lem}
use Rattle.equality_propagate.proofs.Pairing as laws
use Rattle.equality_propagate.proofs.conclude.Goals as goal

-- ---- the needs

pub returns-then-n-eq0 : goal.returns-then-n-eq0
returns-then-n-eq0 c =
    (laws.attended_none c.requires.ready.0 c.if-n-eq0.true, c.requires.ready.1)

pub conclude_joined-requires : goal.conclude_joined-requires
conclude_joined-requires c =
    let pair : PairAt c.args.n c.args.x c.pair_of-pair.result.low c.pair_of-pair.result.high = pair_of_lem c.requires.ready.1 c.requires.x_in_bounds.0 c.if-n-eq0.false c.requires.pair_table c.pair_of-pair.ensures in
    let g = pair in
    record { ready = c.requires.ready; p_lt_q = (g.order, g.inside, laws.value_joined c.requires.ready.0 g c.requires.x_in_bounds c.from.ensures c.if-values-from-eq1.true) }

pub returns-then-values-from-eq1 : goal.returns-then-values-from-eq1
returns-then-values-from-eq1 c =
    let pair : PairAt c.args.n c.args.x c.pair_of-pair.result.low c.pair_of-pair.result.high = pair_of_lem c.requires.ready.1 c.requires.x_in_bounds.0 c.if-n-eq0.false c.requires.pair_table c.pair_of-pair.ensures in
    let e = c.conclude_joined.ensures in
    (laws.at-variable c.requires.ready.0 pair e.0, e.1)

pub conclude_apart-requires : goal.conclude_apart-requires
conclude_apart-requires c =
    let pair : PairAt c.args.n c.args.x c.pair_of-pair.result.low c.pair_of-pair.result.high = pair_of_lem c.requires.ready.1 c.requires.x_in_bounds.0 c.if-n-eq0.false c.requires.pair_table c.pair_of-pair.ensures in
    let g = pair in
    record { ready = c.requires.ready; p_lt_q = (g.order, g.inside, laws.value_apart c.requires.ready.0 g c.requires.x_in_bounds c.from.ensures c.if-values-from-eq1.false) }

pub returns : goal.returns
returns c =
    let pair : PairAt c.args.n c.args.x c.pair_of-pair.result.low c.pair_of-pair.result.high = pair_of_lem c.requires.ready.1 c.requires.x_in_bounds.0 c.if-n-eq0.false c.requires.pair_table c.pair_of-pair.ensures in
    let e = c.conclude_apart.ensures in
    (laws.at-variable c.requires.ready.0 pair e.0, e.1)
