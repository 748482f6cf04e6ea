-- `check_matching::record_met` meets its contract: the states before this one match the return. Assumes nothing.
use Rattle.table_spec.specs.Maps.{class_of}
use Rattle.check_matching.proofs.Matched.{by_class, record_apart, record_dead}
use Rattle.lists.proofs.Upto.{all-passed, all_failed, all_done}
use native.Mathlib.Omega.{arith}
use mathlib.Core.Path.{sym, ap, ◌∙◌}
use Rattle.check_matching.proofs.record_met.Goals as goal
use Rattle.check_matching.proofs.record_met.Goals.{else-is_in, then-is_in+else-not-record_matched}

pub returns-then-not-keeps : goal.returns-then-not-keeps
returns-then-not-keeps c = record_dead _ _ _ _ _ c.requires.1 (sym c.keeps.ensures ∙ c.if-not-keeps.true)

-- the class that is sought is that of the record's first state
pub record_matched-requires : goal.record_matched-requires
record_matched-requires c =
    let k = sym c.keeps.ensures ∙ c.if-not-keeps.false in
    let e = c.class_of-class.ensures ∙ ap (class_of c.args.map.now) c.from.ensures in
    record { lent = (c.requires.0, c.requires.1, k); q_value = (by_class _ _ _ e c.is_in.ensures c.if-is_in.true, omega (arith, c.requires.0.few, c.states-test.true)) }

pub returns-then-not-record_matched : goal.returns-then-not-record_matched
returns-then-not-record_matched c =
    all_failed _ c.states.invariant c.states-test.true (sym c.record_matched.ensures ∙ c.if-not-record_matched.true)

pub states-preserved : goal.states-preserved
states-preserved c =
    let i = c.states.invariant in
    let t = c.states-test.true in
    let e = c.class_of-class.ensures ∙ ap (class_of c.args.map.now) c.from.ensures in
    elim c.if-is_in.branch [ then-is_in+else-not-record_matched w ↦ all-passed _ i t (sym w.record_matched.ensures ∙ w.if-not-record_matched.false) | else-is_in w ↦ all-passed _ i t (record_apart _ _ _ _ _ _ _ (by_class _ _ _ e c.is_in.ensures w.if-is_in.false)) ]

pub returns : goal.returns
returns c = all_done _ c.states.invariant c.states-test.false
