-- `script_levels::returned` meets its contract. Assumes nothing.
use native.Mathlib.Omega.{arith}
use mathlib.Core.Path.{refl}
use lib.ListN.{get_or}
use Rattle.script_spec.specs.Script.{returned}
use Rattle.script_levels.specs.Levels.{popped}
use Rattle.table_index.proofs.Index.{lent-more}
use Rattle.script_levels.proofs.Stepping.{block-there, part-ends, part-few, part-gain, stepping, step-over, step_by_lem, stepped_all, popped-same, popped-none}
use Rattle.script_levels.proofs.returned.Goals as goal
use Rattle.script_levels.proofs.returned.Goals.{then-reached-ne0, else-reached-ne0}

pub states-init : goal.states-init
states-init c =
    stepping (omega arith) c.requires.0 c.requires.2 c.requires.3 _ 3 c.requires.1 _

pub slice_bounds-gain_returns-count : goal.slice_bounds-gain_returns-count
slice_bounds-gain_returns-count c =
    let b = block-there c.requires.3 c.states-test.true c.requires.1 c.from-from.ensures c.from-to.ensures in
    (part-ends 4 _ _ _ (omega arith) b.0 b.1).0

pub slice_bounds-gain_returns-start : goal.slice_bounds-gain_returns-start
slice_bounds-gain_returns-start c =
    let b = block-there c.requires.3 c.states-test.true c.requires.1 c.from-from.ensures c.from-to.ensures in
    (part-ends 4 _ _ _ (omega arith) b.0 b.1).0

pub slice_bounds-gain_returns-end : goal.slice_bounds-gain_returns-end
slice_bounds-gain_returns-end c =
    let b = block-there c.requires.3 c.states-test.true c.requires.1 c.from-from.ensures c.from-to.ensures in
    (part-ends 4 c.args.section.now _ _ (omega arith) b.0 b.1).1

pub gain_returns-requires : goal.gain_returns-requires
gain_returns-requires c =
    let b = block-there c.requires.3 c.states-test.true c.requires.1 c.from-from.ensures c.from-to.ensures in
    part-few 4 c.args.section.now _ _ (omega arith) b.0 b.1 (lent-more c.requires.2 c.requires.0)

pub states-preserved : goal.states-preserved
states-preserved c =
    let f = c.args.level.now in
    let below = c.args.below.now in
    elim c.if-reached-ne0.branch [
      | then-reached-ne0 a ↦ rw a.words-is (step_by_lem (omega arith) c.requires.0 c.requires.2 c.requires.3 _ 3 c.requires.1 _ c.states.invariant c.states-test.true (popped (get_or f c.states.q 0) below) (popped-same f below refl) a.from-from.ensures a.from-to.ensures (let b = block-there c.requires.3 c.states-test.true c.requires.1 a.from-from.ensures a.from-to.ensures in part-gain 4 c.args.section.now _ _ (omega arith) b.0 b.1 _ _ _ a.gain_returns.ensures))
      | else-reached-ne0 a ↦ rw a.words-is (step-over (omega arith) c.requires.0 c.requires.2 c.requires.3 _ 3 c.requires.1 _ c.states.invariant c.states-test.true (popped-none f below refl a.if-reached-ne0.false))
    ]

pub returns : goal.returns
unfolding returned
returns c =
    stepped_all (omega arith) c.requires.0 c.requires.2 c.requires.3 _ 3 c.requires.1 _ c.states.invariant c.states-test.false
