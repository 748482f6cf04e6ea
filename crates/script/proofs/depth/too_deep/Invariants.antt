-- `script::depth::too_deep` meets its contract. Assumes nothing.
use lib.ListN.{get_or}
use Rattle.script.proofs.Depths.{Deepening}
use Rattle.script.proofs.depth.too_deep.Given as goal

abbrev pub invariant-script : goal.invariant-script
invariant-script l = Deepening (λ a. get_or l.symbols a 0) l.script l.depth l.a-index
