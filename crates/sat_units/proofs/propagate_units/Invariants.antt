-- `sat_units::propagate_units` meets its contract. The loop's invariant: each clause seen to is settled, or one of its variables was set. Assumes nothing.
use Rattle.sat_trail.specs.Rows.{Rows}
use Rattle.sat_units.proofs.Units as laws
use Rattle.sat_units.proofs.propagate_units.Given as goal

abbrev pub invariant-noted : goal.invariant-noted
invariant-noted l =
    laws.Hearing l.list l.counters l.noted l.initial.values l.initial.trail l.start l.values l.trail l.count l.c-index × Rows l.n l.values l.rows.joined l.rows.apart
