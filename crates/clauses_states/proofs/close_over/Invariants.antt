-- `clauses_states::close_over` meets its contract: the states so far have their clauses. Assumes nothing.
use Rattle.lists.specs.Lists.{concat_map}
use Rattle.pairs.specs.Triangles.{triangle, past}
use Rattle.clauses_emit.specs.Emit.{state}
use Rattle.clauses_emit.proofs.Stepping.{Over}
use Rattle.clauses_states.proofs.close_over.Given as goal

abbrev pub invariant-states : goal.invariant-states
invariant-states l = Over (λ s. triangle l.p l.q s) l.count (concat_map (λ s. triangle l.p l.q s) (past l.count l.q)) (state l.initial.at l.initial.list) l.s (state l.at l.list)
