-- `records::mark_parts` meets its contract: what is still to be written after each section. Assumes nothing.
use native.Mathlib.Omega.{arith}
use Rattle.records.proofs.Telling.{fresh-room, internals_told, calls-room, calls_told, returns-room, returns_told}
use Rattle.records_fates.proofs.Spans.{records-count}
use Rattle.records.proofs.mark_parts.Goals as goal

pub mark_section-requires : goal.mark_section-requires
mark_section-requires c = (c.requires.fitting_parts.of_internals, omega (arith, c.requires.returns_in_bounds, records-count 3 c.args.sections.now.internals.now), omega arith, fresh-room)

pub mark_section-requires-2 : goal.mark_section-requires-2
mark_section-requires-2 c =
    let w = internals_told c.args.sections.now.internals.now c.args.sections.now.calls.now c.args.sections.now.returns.now c.args.words.now c.args.map.now c.args.out.now c.requires.returns_in_bounds c.mark_section.ensures.0 in
    (c.requires.fitting_parts.of_calls, calls-room c.args.sections.now.internals.now c.args.sections.now.calls.now c.args.sections.now.returns.now c.args.words.now c.args.map.now c.args.out.now w, omega arith, c.mark_section.ensures.1)

pub mark_section-requires-3 : goal.mark_section-requires-3
mark_section-requires-3 c =
    let w = internals_told c.args.sections.now.internals.now c.args.sections.now.calls.now c.args.sections.now.returns.now c.args.words.now c.args.map.now c.args.out.now c.requires.returns_in_bounds c.mark_section.ensures.0 in
    (c.requires.fitting_parts.of_returns, returns-room c.args.sections.now.internals.now c.args.sections.now.calls.now c.args.sections.now.returns.now c.args.words.now c.args.map.now c.args.out.now (calls_told c.args.sections.now.internals.now c.args.sections.now.calls.now c.args.sections.now.returns.now c.args.words.now c.args.map.now c.args.out.now w c.mark_section-2.ensures.0), omega arith, c.mark_section-2.ensures.1)

pub returns : goal.returns
returns c =
    let w = internals_told c.args.sections.now.internals.now c.args.sections.now.calls.now c.args.sections.now.returns.now c.args.words.now c.args.map.now c.args.out.now c.requires.returns_in_bounds c.mark_section.ensures.0 in
    returns_told c.args.sections.now.internals.now c.args.sections.now.calls.now c.args.sections.now.returns.now c.args.words.now c.args.map.now c.args.out.now (calls_told c.args.sections.now.internals.now c.args.sections.now.calls.now c.args.sections.now.returns.now c.args.words.now c.args.map.now c.args.out.now w c.mark_section-2.ensures.0) c.mark_section-3.ensures.0
