-- `tops::tops_read` meets its contract: the parts handed on are the file's sections. Assumes nothing.
use mathlib.Core.Path.{◌∙◌}
use Rattle.tops.proofs.Read.{parts_sections, parts-tops}
use Rattle.tops.proofs.tops_read.Goals as goal

pub tops_of-requires : goal.tops_of-requires
tops_of-requires c =
    let s = c.sections_of.ensures in
    (parts_sections _ c.requires.0 s.states s.internals s.calls s.returns, c.requires.1)

pub returns : goal.returns
returns c =
    let s = c.sections_of.ensures in
    c.tops_of.ensures ∙ parts-tops _ c.requires.0 s.states s.internals s.calls s.returns
