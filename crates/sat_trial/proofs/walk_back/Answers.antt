-- `sat_trial::walk_back` meets its contract. The loop's invariant: from here the walk back finds what it finds from its start. Assumes nothing.
use native.Mathlib.Omega.{arith}
use mathlib.Core.Path.{sym, ◌∙◌}
use Prim.Native.Nat.{◌-◌}
use Rattle.sat_trial.proofs.Retracing as laws
use Rattle.sat_trial.proofs.walk_back.Goals as goal

pub guesses-init : goal.guesses-init
guesses-init c =
    (laws.retracing c.requires.retraceable, c.requires.pair_table.1)

pub trial_holds-requires : goal.trial_holds-requires
trial_holds-requires c =
    (c.requires.list_value.0, rw c.guesses.invariant.0.size c.requires.list_value.1)

pub returns-then-trial_holds : goal.returns-then-trial_holds
returns-then-trial_holds c =
    laws.retrace_holds c.guesses.invariant.0 (sym c.trial_holds.ensures ∙ c.if-trial_holds.true) c.hold.ensures

pub returns-then-depth-eq0 : goal.returns-then-depth-eq0
returns-then-depth-eq0 c =
    laws.retrace_none c.guesses.invariant.0 (sym c.trial_holds.ensures ∙ c.if-trial_holds.false) c.if-depth-eq0.true c.hold-then-depth-eq0.ensures

pub bounds-levels-depth : goal.bounds-levels-depth
bounds-levels-depth c = omega (arith, c.guesses.invariant.0.able.few, c.if-depth-eq0.false)

pub undo_to-requires : goal.undo_to-requires
undo_to-requires c =
    (c.requires.pair_table.0, laws.can_retrace c.guesses.invariant.0 (sym c.trial_holds.ensures ∙ c.if-trial_holds.false) (c.guesses.depth - 1) (omega (arith, c.if-depth-eq0.false)) c.from-mark.ensures, c.guesses.invariant.1)

pub guesses-preserved : goal.guesses-preserved
guesses-preserved c =
    (laws.retrace_on c.guesses.invariant.0 (sym c.trial_holds.ensures ∙ c.if-trial_holds.false) (c.guesses.depth - 1) (omega (arith, c.if-depth-eq0.false)) c.from-mark.ensures c.undo_to.ensures.values, c.undo_to.ensures.rows)
