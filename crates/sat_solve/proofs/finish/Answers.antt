-- `sat_solve::finish` meets its contract: the first closing ends the search, or the turns go on from there. Assumes nothing.
use Rattle.std.proofs.Common.{refl}
use Rattle.sat_decide.proofs.Ends as laws
use Rattle.sat_solve.proofs.finish.Goals as goal

pub propagate_passes-reached-requires : goal.propagate_passes-reached-requires
propagate_passes-reached-requires c =
    record { list_value = c.requires.begun.all_there; ready = (c.requires.begun.ready, c.requires.begun.queue); pair_table = c.requires.pair_table }

pub returns-then-rested-values : goal.returns-then-rested-values
returns-then-rested-values c =
    rw c.not_false-ceiling.ensures (laws.first-solved c.requires.begun c.args.budget c.in-Ok.ensures.0 refl c.if-rested-values.true)

pub turns_left-ending-requires : goal.turns_left-ending-requires
turns_left-ending-requires c =
    record { list_value = c.requires.begun.all_there; rested = laws.first-rested c.requires.begun c.args.budget c.in-Ok.ensures.0 refl; pair_table = (c.requires.pair_table.0, c.in-Ok.ensures.1) }

pub returns : goal.returns
returns c =
    laws.first-outcome c.requires.begun c.args.budget c.in-Ok.ensures.0 refl c.turns_left-ending.result _ c.not_false-ceiling.ensures c.turns_left-ending.ensures

pub returns-in_default : goal.returns-in_default
returns-in_default c = laws.first_absent c.requires.begun c.args.budget c.in_default.ensures.0 refl 0
