-- `clauses::list_measured` meets its contract: measured, then written. Assumes nothing.
use Rattle.clauses.proofs.Writing.{refused, delivered}
use Rattle.clauses.proofs.list_measured.Goals as goal

pub returns-then-list-measured : goal.returns-then-list-measured
returns-then-list-measured c =
    refused _ _ c.nothing.ensures c.all_groups-measured.ensures c.if-list-measured.true

pub returns : goal.returns
returns c =
    delivered _ _ c.nothing.ensures c.all_groups-measured.ensures c.if-list-measured.false c.nothing-2.ensures c.all_groups-written.ensures
