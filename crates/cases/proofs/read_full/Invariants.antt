-- `cases::read_full`: what is read so far is within the buffer. Assumes nothing.
use Rattle.std.proofs.Common.{length, ◌-◌, ◌≤◌}
use Rattle.cases.proofs.read_full.Given as goal

abbrev pub invariant-reads : goal.invariant-reads
invariant-reads g l = l.done ≤ length l.buffer

abbrev pub decreases-reads : goal.decreases-reads
decreases-reads g l = length l.initial.buffer - l.done
