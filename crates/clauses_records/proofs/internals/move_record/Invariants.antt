-- `clauses_records::internals::move_record` meets its contract: the states so far have their clauses. Assumes nothing.
use Rattle.lists.specs.Lists.{concat_map, upto}
use Rattle.table_spec.specs.File.{records}
use Rattle.clauses_spec.specs.Clauses.{move_clause}
use Rattle.clauses_emit.specs.Emit.{state}
use Rattle.clauses_emit.proofs.Stepping.{Over}
use Rattle.clauses_records.proofs.internals.move_record.Given as goal

abbrev pub invariant-states : goal.invariant-states
invariant-states l = Over (λ q. move_clause (records 3 l.section) l.p l.a l.target q) l.count (concat_map (λ q. move_clause (records 3 l.section) l.p l.a l.target q) (upto l.count)) (state l.initial.at l.initial.list) l.q (state l.at l.list)
