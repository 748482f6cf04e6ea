-- `check_map::test_parts` meets its contract, test by test. Assumes nothing.
use Rattle.check_map.proofs.Checking.{number_15, number_16, number_17, number_18, number_19, number_20, number_0, lent-states}
use mathlib.Core.Path.{sym, ◌∙◌}
use Rattle.check_map.proofs.test_parts.Goals as goal

pub returns-then-map-states : goal.returns-then-map-states
returns-then-map-states c = number_15 _ _ _ _ _ _ c.if-map-states.true

pub returns-then-not-numbered : goal.returns-then-not-numbered
returns-then-not-numbered c = number_16 _ _ _ _ _ _ c.if-map-states.false (sym c.numbered.ensures ∙ c.if-not-numbered.true)

pub returns-then-not-labels_agree : goal.returns-then-not-labels_agree
returns-then-not-labels_agree c =
    number_17 _ _ _ _ _ _ c.if-map-states.false (sym c.numbered.ensures ∙ c.if-not-numbered.false) (sym c.labels_agree.ensures ∙ c.if-not-labels_agree.true)

pub records_matched-requires : goal.records_matched-requires
records_matched-requires c =
    lent-states c.if-map-states.false c.requires.internals-lent

pub returns-then-not-records_matched : goal.returns-then-not-records_matched
returns-then-not-records_matched c =
    number_18 _ _ _ _ _ _ c.if-map-states.false (sym c.numbered.ensures ∙ c.if-not-numbered.false) (sym c.labels_agree.ensures ∙ c.if-not-labels_agree.false) (sym c.records_matched.ensures ∙ c.if-not-records_matched.true)

pub records_matched-requires-2 : goal.records_matched-requires-2
records_matched-requires-2 c =
    lent-states c.if-map-states.false c.requires.calls-lent

pub returns-then-not-records_matched-2 : goal.returns-then-not-records_matched-2
returns-then-not-records_matched-2 c =
    number_19 _ _ _ _ _ _ c.if-map-states.false (sym c.numbered.ensures ∙ c.if-not-numbered.false) (sym c.labels_agree.ensures ∙ c.if-not-labels_agree.false) (sym c.records_matched.ensures ∙ c.if-not-records_matched.false) (sym c.records_matched-2.ensures ∙ c.if-not-records_matched-2.true)

pub live_matched-requires : goal.live_matched-requires
live_matched-requires c =
    lent-states c.if-map-states.false c.requires.returns-lent

pub returns-then-not-live_matched : goal.returns-then-not-live_matched
returns-then-not-live_matched c =
    number_20 _ _ _ _ _ _ c.if-map-states.false (sym c.numbered.ensures ∙ c.if-not-numbered.false) (sym c.labels_agree.ensures ∙ c.if-not-labels_agree.false) (sym c.records_matched.ensures ∙ c.if-not-records_matched.false) (sym c.records_matched-2.ensures ∙ c.if-not-records_matched-2.false) (sym c.live_matched.ensures ∙ c.if-not-live_matched.true)

pub returns : goal.returns
returns c =
    number_0 _ _ _ _ _ _ c.if-map-states.false (sym c.numbered.ensures ∙ c.if-not-numbered.false) (sym c.labels_agree.ensures ∙ c.if-not-labels_agree.false) (sym c.records_matched.ensures ∙ c.if-not-records_matched.false) (sym c.records_matched-2.ensures ∙ c.if-not-records_matched-2.false) (sym c.live_matched.ensures ∙ c.if-not-live_matched.false)
