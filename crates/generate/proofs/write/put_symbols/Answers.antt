-- `generate::write::put_symbols` meets its contract: the bytes from here on are still to be written. Assumes nothing.
use Rattle.std.proofs.Common.{◌∙◌, arith}
use Rattle.lists.proofs.Copying as laws
use Rattle.generate_spec.proofs.Bytes.{length_symbols, symbol-at}
use Rattle.generate.proofs.write.put_symbols.Goals as goal

pub symbols-init : goal.symbols-init
symbols-init c = laws.writing (omega (arith, c.requires.1, length_symbols c.args.internals c.args.calls c.args.symbols))

pub kind_of-requires : goal.kind_of-requires
kind_of-requires c = c.requires.0

pub bounds-out-a : goal.bounds-out-a
bounds-out-a c =
    omega (arith, c.symbols-test.true, length_symbols c.args.internals c.args.calls c.args.symbols, c.symbols.invariant.room, laws.same_length c.symbols.invariant)

pub symbols-preserved : goal.symbols-preserved
symbols-preserved c =
    rw (c.kind_of.ensures ∙ symbol-at c.args.internals c.args.calls c.args.symbols c.symbols.a c.symbols-test.true) (laws.write_on c.symbols.invariant (omega (arith, c.symbols-test.true, length_symbols c.args.internals c.args.calls c.args.symbols)))

pub shape_of-out : goal.shape_of-out
shape_of-out c = laws.same_length c.symbols.invariant

pub returns : goal.returns
returns c = laws.write_all c.symbols.invariant (omega (arith, c.symbols-test.false, length_symbols c.args.internals c.args.calls c.args.symbols))
