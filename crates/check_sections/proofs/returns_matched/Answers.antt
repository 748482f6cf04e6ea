-- `check_sections::returns_matched` meets its contract: the states before this one match the returns. Assumes nothing.
use Rattle.check_sections.proofs.States.{lent_lies, state_met, by_states}
use Rattle.lists.proofs.Upto.{counting, all-passed, all_failed, all_done}
use mathlib.Core.Path.{sym, ◌∙◌}
use Prim.Native.Nat.{◌-◌}
use native.Mathlib.Omega.{arith}
use Rattle.check_sections.proofs.returns_matched.Goals as goal

pub states-init : goal.states-init
states-init c =
    (counting _ _, c.requires.2)

pub bit-own-requires : goal.bit-own-requires
bit-own-requires c =
    omega (arith, c.states-test.true, c.requires.0.few)

pub offset_bounds-joined-q : goal.offset_bounds-joined-q
offset_bounds-joined-q c =
    omega (arith, c.states-test.true, c.requires.0.few)

pub bounds-joined-q : goal.bounds-joined-q
bounds-joined-q c =
    omega (arith, c.states-test.true, c.requires.0.few)

pub note-requires : goal.note-requires
note-requires c =
    (lent_lies c.requires.0 c.requires.1, c.states.invariant.1)

pub met-requires : goal.met-requires
met-requires c =
    lent_lies c.requires.0 c.requires.1

pub returns-then-not-met : goal.returns-then-not-met
returns-then-not-met c =
    let e = state_met c.args.words.now c.requires.0 c.requires.1 c.states-test.true c.bit-own.ensures c.word_at-tops.ensures c.note.ensures c.met.ensures in
    all_failed _ c.states.invariant.0 c.states-test.true (sym e ∙ c.if-not-met.true) ∙ by_states 4 _ _ _ _

pub wipe-requires : goal.wipe-requires
wipe-requires c =
    (lent_lies c.requires.0 c.requires.1, c.note.ensures)

pub states-preserved : goal.states-preserved
states-preserved c =
    let e = state_met c.args.words.now c.requires.0 c.requires.1 c.states-test.true c.bit-own.ensures c.word_at-tops.ensures c.note.ensures c.met.ensures in
    (all-passed _ c.states.invariant.0 c.states-test.true (sym e ∙ c.if-not-met.false), c.wipe.ensures)

pub returns : goal.returns
returns c =
    all_done _ c.states.invariant.0 c.states-test.false ∙ by_states 4 _ _ _ _
