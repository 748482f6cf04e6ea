-- `clauses_emit::literals::add_literal` meets its contract. Assumes nothing.
use mathlib.Core.Path.{sym, ◌∙◌}
use borrow.Author.Rules.{rules}
use Rattle.clauses_emit.proofs.Collecting.{kept-literal, new-literal}
use Rattle.clauses_emit.proofs.literals.add_literal.Goals as goal

pub returns-then-contains : goal.returns-then-contains
returns-then-contains c =
    (kept-literal _ _ c.requires.1 c.requires.0 (sym c.contains.ensures ∙ c.if-contains.true), c.requires.1)

pub returns : goal.returns
returns c =
    (new-literal _ _ c.requires.1 c.requires.0 (sym c.contains.ensures ∙ c.if-contains.false), search rules)
