-- `generate::write::put_symbols` meets its contract: the bytes from here on are still to be written. Assumes nothing.
use Rattle.lists.proofs.Copying as laws
use Rattle.generate_spec.specs.Loads.{symbol_bytes}
use Rattle.generate.proofs.write.put_symbols.Given as goal

abbrev pub invariant-symbols : goal.invariant-symbols
invariant-symbols l = laws.Writing (symbol_bytes l.internals l.calls l.symbols) l.initial.out l.out l.a
