-- `equality_transitivity::conclude_joined` meets its contract: what is set, true and false, is all that p = q says. Assumes nothing.
use mathlib.Core.Path.{refl}
use Rattle.sat_trail.proofs.Working.{worked_on}
use Rattle.equality_transitivity.proofs.Concluding as laws
use Rattle.equality_transitivity.proofs.conclude_joined.Goals as goal

pub spread_both-requires : goal.spread_both-requires
spread_both-requires c =
    let w = c.requires.ready.0 in
    let rows = c.requires.ready.1 in
    let o = c.requires.p_lt_q in
    let f = c.lacking-to_q.ensures in
    let g = c.lacking-to_p.ensures in
    let h = c.lacking-from_q.ensures in
    let i = c.lacking-from_p.ensures in
    record { ready = (w, rows); spreads = (laws.joins_q w rows _ _ o.0 o.1 o.2 f g h i, laws.joins-p w rows _ _ o.0 o.1 o.2 f g h i) }

pub spread_both-requires-2 : goal.spread_both-requires-2
spread_both-requires-2 c =
    let w = c.requires.ready.0 in
    let rows = c.requires.ready.1 in
    let o = c.requires.p_lt_q in
    let f = c.lacking-to_q.ensures in
    let g = c.lacking-to_p.ensures in
    let h = c.lacking-from_q.ensures in
    let i = c.lacking-from_p.ensures in
    let k = c.in_ok-count.ensures.0 in
    record { ready = (worked_on w k.worked, c.spread_both.ensures.1); spreads = (laws.leaves_q w rows _ _ o.0 o.1 o.2 f g h i k, laws.leaves-p w rows _ _ o.0 o.1 o.2 f g h i k) }

pub returns : goal.returns
returns c =
    let w = c.requires.ready.0 in
    let rows = c.requires.ready.1 in
    let o = c.requires.p_lt_q in
    let f = c.lacking-to_q.ensures in
    let g = c.lacking-to_p.ensures in
    let h = c.lacking-from_q.ensures in
    let i = c.lacking-from_p.ensures in
    let k = c.in_ok-count.ensures.0 in
    let l = c.spread_both-2.ensures.0 in
    (laws.joins-done w rows _ _ o.0 o.1 o.2 f g h i k refl l, c.spread_both-2.ensures.1)
