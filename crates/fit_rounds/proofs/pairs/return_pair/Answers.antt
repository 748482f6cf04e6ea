-- `fit_rounds::pairs::return_pair` meets its contract. Assumes nothing.
use mathlib.Core.Path.{sym, ◌∙◌}
use Rattle.fit_rounds.proofs.Passing.{return_turns, return-none}
use Rattle.fit_rounds.proofs.pairs.return_pair.Goals as goal

pub returns-then-held : goal.returns-then-held
returns-then-held c = λ k n lu ly lv. return_turns _ _ _ (λ F h. sym c.if-held.true ∙ c.held.ensures F h) c.join.ensures k n ly lv

pub returns-else-held : goal.returns-else-held
returns-else-held c = λ k n lu ly lv. return-none _ _ _ (λ F h. sym c.if-held.false ∙ c.held.ensures F h) k n
