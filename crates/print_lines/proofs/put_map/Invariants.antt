-- `print_lines::put_map` meets its contract: the classes of the states before this one are put. Assumes nothing.
use Rattle.print_lines.proofs.Mapping.{Mapping}
use Rattle.print_lines.proofs.put_map.Given as goal

abbrev pub invariant-states : goal.invariant-states
invariant-states l = Mapping l.map l.initial.text l.text l.initial.to l.to l.class-index
