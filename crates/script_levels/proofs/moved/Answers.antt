-- `script_levels::moved` meets its contract. Assumes nothing.
use native.Mathlib.Omega.{arith}
use mathlib.Core.Path.{sym, ap, ◌∙◌}
use Rattle.script_spec.specs.Script.{gain, moved}
use Rattle.table_index.proofs.Index.{lent-more}
use Rattle.script_levels.proofs.Stepping.{block-there, part-ends, part-few, part-gain, stepping, step-over, step_by_lem, stepped_all}
use Rattle.script_levels.proofs.moved.Goals as goal
use Rattle.script_levels.proofs.moved.Goals.{else-w-ne0, then-w-ne0}

pub states-init : goal.states-init
states-init c =
    stepping (omega arith) c.requires.0 c.requires.2 c.requires.3 _ 2 c.requires.1 _

pub gain-w-requires : goal.gain-w-requires
gain-w-requires c = omega (arith, c.states-test.true, c.requires.0)

pub slice_bounds-gain_moves-count : goal.slice_bounds-gain_moves-count
slice_bounds-gain_moves-count c =
    let b = block-there c.requires.3 c.states-test.true c.requires.1 c.from-from.ensures c.from-to.ensures in
    (part-ends 3 _ _ _ (omega arith) b.0 b.1).0

pub slice_bounds-gain_moves-start : goal.slice_bounds-gain_moves-start
slice_bounds-gain_moves-start c =
    let b = block-there c.requires.3 c.states-test.true c.requires.1 c.from-from.ensures c.from-to.ensures in
    (part-ends 3 _ _ _ (omega arith) b.0 b.1).0

pub slice_bounds-gain_moves-end : goal.slice_bounds-gain_moves-end
slice_bounds-gain_moves-end c =
    let b = block-there c.requires.3 c.states-test.true c.requires.1 c.from-from.ensures c.from-to.ensures in
    (part-ends 3 c.args.section.now _ _ (omega arith) b.0 b.1).1

pub gain_moves-requires : goal.gain_moves-requires
gain_moves-requires c =
    let b = block-there c.requires.3 c.states-test.true c.requires.1 c.from-from.ensures c.from-to.ensures in
    part-few 3 c.args.section.now _ _ (omega arith) b.0 b.1 (lent-more c.requires.2 c.requires.0)

pub states-preserved : goal.states-preserved
states-preserved c =
    let gives = gain c.args.call c.args.level.now in
    elim c.if-w-ne0.branch [ then-w-ne0 a ↦ rw a.words-is (step_by_lem (omega arith) c.requires.0 c.requires.2 c.requires.3 _ 2 c.requires.1 _ c.states.invariant c.states-test.true (λ r. c.gain-w.result) (λ r d. c.gain-w.ensures ∙ ap gives (sym d)) a.from-from.ensures a.from-to.ensures (let b = block-there c.requires.3 c.states-test.true c.requires.1 a.from-from.ensures a.from-to.ensures in part-gain 3 c.args.section.now _ _ (omega arith) b.0 b.1 _ _ _ a.gain_moves.ensures)) | else-w-ne0 a ↦ rw a.words-is (step-over (omega arith) c.requires.0 c.requires.2 c.requires.3 _ 2 c.requires.1 _ c.states.invariant c.states-test.true (λ r d. ap gives d ∙ sym c.gain-w.ensures ∙ a.if-w-ne0.false)) ]

pub returns : goal.returns
unfolding moved
returns c =
    stepped_all (omega arith) c.requires.0 c.requires.2 c.requires.3 _ 2 c.requires.1 _ c.states.invariant c.states-test.false
