-- `fit_worklist::firsts` meets its contract: records start at the places. Assumes nothing.
use Rattle.fit_links.proofs.Quickly.{placing, placing_set}
use Rattle.fit_worklist.proofs.firsts.Goals as goal
use Rattle.fit_worklist.proofs.firsts.Goals.{else-p-lt24, then-p-lt24}

pub records-init : goal.records-init
records-init c = placing _ _

pub records-preserved : goal.records-preserved
records-preserved c =
    let i = c.records.invariant in
    elim c.if-p-lt24.branch [ then-p-lt24 w ↦ rw w.places-is (placing_set i c.records.k _ c.records-test.true) | else-p-lt24 w ↦ rw w.places-is i ]

pub returns : goal.returns
returns c = record { each = c.records.invariant.places-are }
