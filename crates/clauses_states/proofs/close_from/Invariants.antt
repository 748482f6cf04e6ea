-- `clauses_states::close_from` meets its contract: the states so far have their clauses. Assumes nothing.
use Rattle.lists.specs.Lists.{concat_map}
use Rattle.pairs.specs.Triangles.{triangle, past}
use Rattle.clauses_emit.specs.Emit.{state}
use Rattle.clauses_emit.proofs.Stepping.{Over}
use Rattle.clauses_states.proofs.close_from.Given as goal

abbrev pub invariant-states : goal.invariant-states
invariant-states l = Over (λ q. concat_map (λ s. triangle l.p q s) (past l.count q)) l.count (concat_map (λ q. concat_map (λ s. triangle l.p q s) (past l.count q)) (past l.count l.p)) (state l.initial.at l.initial.list) l.q (state l.at l.list)
