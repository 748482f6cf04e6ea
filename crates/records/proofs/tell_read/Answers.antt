-- `records::tell_read` meets its contract: the parts that are handed on are the sections. Assumes nothing.
use mathlib.Core.Path.{ap, ◌∙◌}
use Rattle.check_map.proofs.Checking.{known_of}
use Rattle.records.specs.Told.{told_for}
use Rattle.records.proofs.Handed.{parts-fit, parts-marked}
use Rattle.records.proofs.tell_read.Goals as goal

pub tell_parts-requires : goal.tell_parts-requires
tell_parts-requires c =
    let s = c.sections_of-sections.ensures in
    parts-fit (known_of c.args.examined.now) c.args.map.now c.requires s.internals s.calls s.returns

pub returns : goal.returns
returns c =
    let s = c.sections_of-sections.ensures in
    c.tell_parts.ensures ∙ ap (λ marks. told_for marks c.args.out.now) (parts-marked (known_of c.args.examined.now) c.args.map.now c.requires s.internals s.calls s.returns)
