-- `clauses_records::returns::return_record` meets its contract: the states so far have their clauses. Assumes nothing.
use Rattle.lists.specs.Lists.{concat_map, upto}
use Rattle.table_spec.specs.File.{records}
use Rattle.clauses_spec.specs.Clauses.{top_states}
use Rattle.clauses_emit.specs.Emit.{state}
use Rattle.clauses_records.specs.Returns.{return_of}
use Rattle.clauses_emit.proofs.Stepping.{Over}
use Rattle.clauses_records.proofs.returns.return_record.Given as goal

abbrev pub invariant-states : goal.invariant-states
invariant-states l = Over (λ q. concat_map (λ u. return_of (records 4 l.section) l.x q u) (top_states l.tops l.count q)) l.count (concat_map (λ q. concat_map (λ u. return_of (records 4 l.section) l.x q u) (top_states l.tops l.count q)) (upto l.count)) (state l.initial.at l.initial.list) l.q (state l.at l.list)
