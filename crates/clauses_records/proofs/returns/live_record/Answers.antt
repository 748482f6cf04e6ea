-- `clauses_records::returns::live_record` meets its contract. Assumes nothing.
use Rattle.clauses_records.proofs.Returning.{dead, alive}
use Rattle.clauses_records.proofs.returns.live_record.Goals as goal

pub returns-then-not-is_live : goal.returns-then-not-is_live
returns-then-not-is_live c = dead _ _ _ _ _ c.is_live.ensures c.if-not-is_live.true

pub returns : goal.returns
returns c =
    alive _ _ _ _ _ c.is_live.ensures c.if-not-is_live.false c.return_record.ensures
