-- `quotient::write_read` meets its contract: the parts that are handed on are the sections. Assumes nothing.
use mathlib.Core.Path.{◌∙◌}
use Rattle.check_map.proofs.Checking.{known_of}
use Rattle.quotient.proofs.Quotienting.{known-long, known_sized, written_read}
use Rattle.quotient.proofs.write_read.Goals as goal

pub version_of-requires : goal.version_of-requires
version_of-requires c = known-long (known_of c.args.examined.now)

pub write_parts-requires : goal.write_parts-requires
write_parts-requires c =
    let s = c.sections_of-sections.ensures in
    known_sized (known_of c.args.examined.now) s.symbols s.states s.internals s.calls s.returns

pub returns : goal.returns
returns c =
    let s = c.sections_of-sections.ensures in
    c.write_parts.ensures
    ∙ written_read (known_of c.args.examined.now) s.symbols s.states s.internals s.calls s.returns
    c.args.map.now c.args.examined.now.bytes_fit (λ k. (c.type_inv.map k).fits)
    c.version_of.ensures c.args.out.now
