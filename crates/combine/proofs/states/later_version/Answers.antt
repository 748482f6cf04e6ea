-- `combine::states::later_version` meets its contract. Assumes nothing.
use Rattle.combine.proofs.StateBytes.{first-later, second-later, none-later}
use Rattle.combine.proofs.states.later_version.Goals as goal

pub returns-then-first-eq2 : goal.returns-then-first-eq2
returns-then-first-eq2 c =
    first-later c.args.second c.if-first-eq2.true

pub returns-then-second-eq2 : goal.returns-then-second-eq2
returns-then-second-eq2 c =
    second-later c.if-first-eq2.false c.if-second-eq2.true

pub returns : goal.returns
returns c =
    none-later c.if-first-eq2.false c.if-second-eq2.false
