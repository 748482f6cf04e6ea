-- `sat_solve::none_set` meets its contract. Assumes nothing.
use mathlib.Core.Path.{refl}
use Rattle.sat_decide.specs.Turns.{none_set}
use Rattle.sat_solve.proofs.none_set.Goals as goal

pub returns : goal.returns
unfolding none_set
returns c = refl
