-- `clauses_states::transitive` meets its contract: the states so far have their clauses. Assumes nothing.
use Rattle.lists.specs.Lists.{concat_map, upto}
use Rattle.pairs.specs.Triangles.{triangle, past}
use Rattle.clauses_emit.specs.Emit.{state}
use Rattle.clauses_emit.proofs.Stepping.{Over}
use Rattle.clauses_states.proofs.transitive.Given as goal

abbrev pub invariant-states : goal.invariant-states
invariant-states l = Over (λ p. concat_map (λ q. concat_map (λ s. triangle p q s) (past l.count q)) (past l.count p)) l.count (concat_map (λ p. concat_map (λ q. concat_map (λ s. triangle p q s) (past l.count q)) (past l.count p)) (upto l.count)) (state l.initial.at l.initial.list) l.p (state l.at l.list)
