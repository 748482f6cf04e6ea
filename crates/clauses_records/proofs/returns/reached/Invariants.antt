-- `clauses_records::returns::reached` meets its contract: no record passed has the stack state. Assumes nothing.
use Rattle.clauses_records.proofs.Walking.{Reaching}
use Rattle.clauses_records.proofs.returns.reached.Given as goal

abbrev pub invariant-records : goal.invariant-records
invariant-records l = Reaching l.block l.from l.u l.i
