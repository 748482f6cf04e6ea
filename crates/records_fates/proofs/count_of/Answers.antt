-- `records_fates::count_of` meets its contract: the marks that are this one are as many. Assumes nothing.
use mathlib.Core.Path.{◌≡◌, ◌∙◌}
use borrow.Author.Rules.{rules}
use lib.Dec.{eqb}
use Rattle.std.specs.List.{count_by}
use Rattle.records_fates.proofs.Counting.{count_having}
use Rattle.records_fates.proofs.count_of.Goals as goal

pub returns : goal.returns
returns c =
    let e : c.count.result ≡ count_by (λ x. eqb x c.args.mark) c.args.marks.now = search rules in
    e ∙ count_having _ _
