-- `clauses::clauses_within` meets its contract: reading first, then the list. Assumes nothing.
use mathlib.Core.Path.{ap, ◌∙◌}
use mathlib.Core.Bool.{true}
use mathlib.Core.List.{List}
use Prim.Native.Nat.{ℕ}
use Rattle.std.specs.Borrow.{Bor}
use Rattle.refusals.proofs.Numbers.{passed_up}
use Rattle.table_spec.specs.File.{table_of}
use Rattle.clauses_spec.proofs.Theorems.{promised}
use Rattle.clauses.specs.Whole.{listed_by, list_for}
use Rattle.clauses.proofs.Whole.{listed, unread}
use Rattle.clauses.proofs.clauses_within.Goals as goal

pub returns-in_err-examined : goal.returns-in_err-examined
returns-in_err-examined c =
    let the_facts = promised _ c.args.table.now c.args.list.now (unread _ _ _ _ c.in_err-examined.ensures.err (passed_up c.from_residual.ensures)) in
    record { answers = the_facts.0; number = the_facts.1.0; sound = the_facts.1.1 }

pub returns : goal.returns
returns c =
    let b = c.args.table.now in
    let list = c.args.list.now in
    let ok = c.in_ok-examined.ensures.ok in
    let told = c.list_read.ensures ∙ ap (λ (t : Bor (List ℕ)). listed_by (list_for true (table_of t.now)) list) ok.0 in
    let the_facts = promised _ b list (told ∙ listed _ b ok.1 list) in
    record { answers = the_facts.0; number = the_facts.1.0; sound = the_facts.1.1 }
