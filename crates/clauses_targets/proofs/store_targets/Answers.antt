-- `clauses_targets::store_targets` meets its contract: the literals of the targets so far stand at the front. Assumes nothing.
use native.Mathlib.Omega.{arith}
use Rattle.lists.proofs.Copying.{same_length as written-length}
use Rattle.clauses_targets.proofs.Targeting.{target_storing, target_on, targets-stored}
use Rattle.clauses_targets.proofs.store_targets.Goals as goal

pub targets-init : goal.targets-init
targets-init c = target_storing c.requires.0 _ c.requires.1

pub target_at-requires : goal.target_at-requires
target_at-requires c = (c.requires.0, c.targets-test.true)

pub bounds-rest-i : goal.bounds-rest-i
bounds-rest-i c =
    omega (arith, c.targets-test.true, written-length c.targets.invariant, c.requires.1)

pub targets-preserved : goal.targets-preserved
targets-preserved c =
    target_on c.requires.0 _ c.targets.invariant c.targets-test.true c.target_at.ensures c.joined.ensures

pub shape_of-rest : goal.shape_of-rest
shape_of-rest c = written-length c.targets.invariant

pub returns : goal.returns
returns c = targets-stored c.requires.0 _ c.targets.invariant c.targets-test.false
