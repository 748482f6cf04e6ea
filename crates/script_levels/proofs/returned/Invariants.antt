-- `script_levels::returned` meets its contract. Assumes nothing.
use Rattle.table_spec.specs.File.{records}
use Rattle.script_spec.specs.Script.{by_return}
use Rattle.script_levels.proofs.Stepping.{Stepping}
use Rattle.script_levels.proofs.returned.Given as goal

abbrev pub invariant-states : goal.invariant-states
invariant-states l = Stepping (by_return l.level l.below) 3 l.a (records 4 l.section) l.starts l.n l.initial.words l.q l.words
