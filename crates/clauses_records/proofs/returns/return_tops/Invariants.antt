-- `clauses_records::returns::return_tops` meets its contract: the tops so far have their clauses, and the records before the one at hand are below those to come. Assumes nothing.
use Rattle.lists.specs.Lists.{concat_map, filter, upto}
use Rattle.lists.specs.Bits.{has_bit}
use Rattle.table_spec.specs.File.{records}
use Rattle.clauses_emit.specs.Emit.{state}
use Rattle.clauses_records.specs.Returns.{return_of}
use Rattle.clauses_records.proofs.Walking.{Walked}
use Rattle.clauses_records.proofs.Returning.{Toward}
use Rattle.clauses_records.proofs.returns.return_tops.Given as goal

abbrev pub invariant-tops : goal.invariant-tops
invariant-tops l = Toward (λ u. return_of (records 4 l.block) l.x l.q u) l.count (concat_map (λ u. return_of (records 4 l.block) l.x l.q u) (filter (has_bit l.word) (upto l.count))) (state l.initial.so_far l.initial.list) l.rest (state l.so_far l.list) × Walked l.block l.rest l.at

abbrev pub decreases-tops : goal.decreases-tops
decreases-tops l = l.rest
