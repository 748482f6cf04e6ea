-- `fit_rounds::pairs::by_move` meets its contract. The invariant: the states of the second below b are done. Assumes nothing.
use borrow.Author.Rules.{rules}
use Rattle.fit_rounds.proofs.Passing.{seconds, pair_fits, seconds_on, seconds-done}
use Prim.Native.Nat.{◌+◌, ◌*◌}
use native.Mathlib.Omega.{arith}
use Rattle.fit_rounds.proofs.pairs.by_move.Goals as goal

pub seconds-init : goal.seconds-init
seconds-init c = seconds _ _ _ _ _ _ _

pub overflow_mul-p : goal.overflow_mul-p
overflow_mul-p c =
    let h = pair_fits c.requires.0 c.requires.3.few c.seconds-test.true in search rules

pub overflow_add-p : goal.overflow_add-p
overflow_add-p c =
    let h = pair_fits c.requires.0 c.requires.3.few c.seconds-test.true in search rules

pub overflow_mul-q : goal.overflow_mul-q
overflow_mul-q c =
    let h = pair_fits {b = c.from-to.result} c.requires.2 c.requires.3.few (omega (arith, c.from-to.ensures, c.requires.3.within (c.seconds.b * 32 + c.args.a))) in search rules

pub overflow_add-q : goal.overflow_add-q
overflow_add-q c =
    let h = pair_fits {b = c.from-to.result} c.requires.2 c.requires.3.few (omega (arith, c.from-to.ensures, c.requires.3.within (c.seconds.b * 32 + c.args.a))) in search rules

pub move_pair-requires : goal.move_pair-requires
move_pair-requires c =
    (pair_fits c.requires.0 c.requires.3.few c.seconds-test.true, pair_fits {b = c.from-to.result} c.requires.2 c.requires.3.few (omega (arith, c.from-to.ensures, c.requires.3.within (c.seconds.b * 32 + c.args.a))))

pub seconds-preserved : goal.seconds-preserved
seconds-preserved c =
    seconds_on c.seconds.invariant c.requires.3 c.requires.1 c.seconds-test.true c.from-to.ensures c.move_pair.ensures

pub returns : goal.returns
returns c = seconds-done c.seconds.invariant c.seconds-test.false
