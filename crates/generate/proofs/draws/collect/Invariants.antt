-- `generate::draws::collect` meets its contract: what is present of the records from here on is still to be collected. Assumes nothing.
use Rattle.std.proofs.Common.{length}
use Rattle.generate_spec.specs.Loads.{possible}
use Rattle.generate.proofs.Drawing.{Collecting}
use Rattle.generate.proofs.draws.collect.Given as goal

abbrev pub invariant-records : goal.invariant-records
invariant-records l = Collecting l.density l.seed (possible l.width l.states l.from l.symbols) (length l.initial.keys) l.keys l.s l.count l.next
