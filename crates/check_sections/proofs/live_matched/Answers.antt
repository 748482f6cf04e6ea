-- `check_sections::live_matched` meets its contract: what is gathered is matched exactly when all is. Assumes nothing.
use Rattle.check_sections.proofs.Live.{gathered_lent, told_live}
use native.Mathlib.Omega.{arith}
use Prim.Native.Nat.{ℕ}
use lib.ListN.{length-take, length-replicate}
use Rattle.check_sections.proofs.live_matched.Goals as goal

pub records_matched-requires-2 : goal.records_matched-requires-2
records_matched-requires-2 c =
    gathered_lent _ _ c.requires c.filter_live-n.ensures.1

pub returns : goal.returns
returns c =
    told_live _ _ _ _ _ c.filter_live-n.ensures.1 c.records_matched-2.ensures
