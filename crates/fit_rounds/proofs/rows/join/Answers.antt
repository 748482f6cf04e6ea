-- `fit_rounds::rows::join` meets its contract. Assumes nothing.
use mathlib.Core.Path.{sym, subst}
use mathlib.Core.List.{List}
use Prim.Native.Nat.{ℕ}
use lib.ListN.{get_or}
use Rattle.tops_spec.specs.Tops.{add}
use Rattle.fit_rounds.specs.Rows.{Holds}
use Rattle.fit_rounds.proofs.Holding.{joining, join_on, join_done, join_holds}
use Rattle.fit_rounds.proofs.rows.join.Goals as goal

pub words-init : goal.words-init
words-init c = joining _ _ _

pub words-preserved : goal.words-preserved
words-preserved c = join_on c.words.invariant c.words-test.true

pub returns : goal.returns
returns c = λ F h lu lv.
    subst (λ (f : List ℕ). Holds f (add F c.args.v (get_or F c.args.u 0))) (sym (join_done c.words.invariant c.words-test.false)) (join_holds h c.args.u c.args.v lu lv)
