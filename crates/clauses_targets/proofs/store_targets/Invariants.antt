-- `clauses_targets::store_targets` meets its contract: the literals of the targets so far stand at the front. Assumes nothing.
use Rattle.lists.proofs.Copying.{Writing}
use Rattle.clauses_targets.specs.Targets.{target_literals}
use Rattle.clauses_targets.proofs.store_targets.Given as goal

abbrev pub invariant-targets : goal.invariant-targets
invariant-targets l = Writing (target_literals l.width l.target l.found) l.initial.rest l.rest l.i
