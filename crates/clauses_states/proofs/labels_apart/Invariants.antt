-- `clauses_states::labels_apart` meets its contract: the variables so far have their clauses. Assumes nothing.
use Rattle.table_spec.specs.File.{of_states}
use Rattle.lists.specs.Lists.{concat_map, upto}
use Rattle.pairs.specs.Pairs.{pair_of}
use Rattle.clauses_emit.specs.Emit.{state}
use Rattle.clauses_states.specs.Alone.{look_clause}
use Rattle.clauses_emit.proofs.Stepping.{Over}
use Rattle.clauses_states.proofs.labels_apart.Given as goal

abbrev pub invariant-variables : goal.invariant-variables
invariant-variables l = Over (λ v. look_clause (of_states l.states) (pair_of v).low (pair_of v).high) l.end (concat_map (λ v. look_clause (of_states l.states) (pair_of v).low (pair_of v).high) (upto l.end)) (state l.initial.at l.initial.list) l.v (state l.at l.list)
