-- `equality_spread::spread_both` meets its contract. Assumes nothing.
use mathlib.Core.Path.{refl}
use Rattle.sat_trail.proofs.Working.{worked_on}
use Rattle.equality_spread.proofs.Spreading as laws
use Rattle.equality_spread.proofs.spread_both.Goals as goal

pub spread-requires-2 : goal.spread-requires-2
spread-requires-2 c =
    let w = c.requires.ready.0 in
    let k = c.in_ok-count.ensures.0 in
    record { ready = (worked_on w k.worked, c.spread.ensures.1); spreads = laws.both-then w k c.requires.spreads.1 }

pub returns : goal.returns
returns c =
    (laws.both-done c.requires.ready.0 c.in_ok-count.ensures.0 c.requires.spreads.0.small refl c.spread-2.ensures.0, c.spread-2.ensures.1)
