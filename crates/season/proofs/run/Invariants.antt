-- `season::run` meets its contract: before each table the rest is still to come. Assumes nothing.
use Rattle.season.proofs.Going.{Going}
use Rattle.season.proofs.run.Given as goal

abbrev pub invariant-tables : goal.invariant-tables
invariant-tables l = Going l.limits l.share l.lengths l.tables l.initial.list l.initial.maps l.initial.out l.values l.list l.maps l.out l.saved l.at l.map_at l.out_at l.i
