-- `script::reads` meets its contract. Assumes nothing.
use Rattle.script.proofs.Walking.{Walking}
use Rattle.table_view.specs.Sections.{sectioned}
use Rattle.script.proofs.reads.Given as goal

abbrev pub invariant-script : goal.invariant-script
invariant-script l = Walking (sectioned 0 l.symbols l.states l.internals l.calls l.returns) l.script l.level l.levels l.depth l.symbol-index
