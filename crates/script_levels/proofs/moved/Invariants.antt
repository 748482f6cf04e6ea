-- `script_levels::moved` meets its contract. Assumes nothing.
use lib.ListN.{get_or}
use Rattle.table_spec.specs.File.{records}
use Rattle.script_spec.specs.Script.{gain}
use Rattle.script_levels.proofs.Stepping.{Stepping}
use Rattle.script_levels.proofs.moved.Given as goal

abbrev pub invariant-states : goal.invariant-states
invariant-states l = Stepping (λ r. gain l.call l.level (get_or r 0 0)) 2 l.a (records 3 l.section) l.starts l.n l.initial.words l.q l.words
