-- `equality_transitivity::conclude_apart` meets its contract: what is set is all that p ≠ q says. Assumes nothing.
use Rattle.equality_transitivity.proofs.Concluding as laws
use Rattle.equality_transitivity.proofs.conclude_apart.Goals as goal

pub spread_both-requires : goal.spread_both-requires
spread_both-requires c =
    let w = c.requires.ready.0 in
    let rows = c.requires.ready.1 in
    let o = c.requires.p_lt_q in
    let f = c.lacking-from_q.ensures in
    let g = c.lacking-from_p.ensures in
    record { ready = (w, rows); spreads = (laws.parts_q w rows _ _ o.0 o.1 o.2 f g, laws.parts-p w rows _ _ o.0 o.1 o.2 f g) }

pub returns : goal.returns
returns c =
    let w = c.requires.ready.0 in
    let rows = c.requires.ready.1 in
    let o = c.requires.p_lt_q in
    let f = c.lacking-from_q.ensures in
    let g = c.lacking-from_p.ensures in
    let k = c.spread_both.ensures.0 in
    (laws.parts-done w rows _ _ o.0 o.1 o.2 f g k, c.spread_both.ensures.1)
