-- `fit_rounds::pairs::by_return_over` meets its contract. The invariant: the popped states below c are done. Assumes nothing.
use borrow.Author.Rules.{rules}
use Rattle.fit_rounds.proofs.Passing.{unders, pair_fits, unders_on, unders_done}
use Prim.Native.Nat.{◌+◌, ◌*◌}
use native.Mathlib.Omega.{arith}
use Rattle.fit_rounds.proofs.pairs.by_return_over.Goals as goal

pub overflow_mul-u : goal.overflow_mul-u
overflow_mul-u c = let h = pair_fits {b = c.args.b} c.requires.0 c.requires.5.few (omega (arith, c.requires.2)) in search rules

pub overflow_add-u : goal.overflow_add-u
overflow_add-u c = let h = pair_fits {b = c.args.b} c.requires.0 c.requires.5.few (omega (arith, c.requires.2)) in search rules

pub unders-init : goal.unders-init
unders-init c = unders _ _ _ _ _ _ _ _

pub overflow_mul-s : goal.overflow_mul-s
overflow_mul-s c =
    let h = pair_fits c.requires.3 c.requires.5.few c.unders-test.true in search rules

pub overflow_add-s : goal.overflow_add-s
overflow_add-s c =
    let h = pair_fits c.requires.3 c.requires.5.few c.unders-test.true in search rules

pub overflow_mul-q : goal.overflow_mul-q
overflow_mul-q c =
    let h = pair_fits {b = c.from-to.result} c.requires.4 c.requires.5.few (omega (arith, c.from-to.ensures, c.requires.5.within ((c.args.b * 32 + c.args.a) * 25 + c.unders.c))) in search rules

pub overflow_add-q : goal.overflow_add-q
overflow_add-q c =
    let h = pair_fits {b = c.from-to.result} c.requires.4 c.requires.5.few (omega (arith, c.from-to.ensures, c.requires.5.within ((c.args.b * 32 + c.args.a) * 25 + c.unders.c))) in search rules

pub return_pair-requires : goal.return_pair-requires
return_pair-requires c =
    (pair_fits {b = c.args.b} c.requires.0 c.requires.5.few (omega (arith, c.requires.2)), pair_fits c.requires.3 c.requires.5.few c.unders-test.true, pair_fits {b = c.from-to.result} c.requires.4 c.requires.5.few (omega (arith, c.from-to.ensures, c.requires.5.within ((c.args.b * 32 + c.args.a) * 25 + c.unders.c))))

pub unders-preserved : goal.unders-preserved
unders-preserved c =
    unders_on c.unders.invariant c.requires.5 c.requires.1 c.requires.2 c.unders-test.true c.from-to.ensures c.return_pair.ensures

pub returns : goal.returns
returns c = unders_done c.unders.invariant c.unders-test.false
