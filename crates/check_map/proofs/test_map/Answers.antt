-- `check_map::test_map` meets its contract: the parts that are handed on are the sections. Assumes nothing.
use mathlib.Core.Path.{◌∙◌}
use Rattle.check_map.proofs.Checking.{known-parts, parts_tests, known_of}
use Rattle.check_map.proofs.test_map.Goals as goal

pub test_parts-requires : goal.test_parts-requires
test_parts-requires c =
    let s = c.sections_of-sections.ensures in
    known-parts (known_of c.args.examined.now) s.states s.internals s.calls s.returns

pub returns : goal.returns
returns c =
    let s = c.sections_of-sections.ensures in
    c.test_parts.ensures ∙ parts_tests (known_of c.args.examined.now) s.states s.internals s.calls s.returns c.args.map.now
