-- `records::tell_parts` meets its contract: short, or marked and counted. Assumes nothing.
use Rattle.records.proofs.Telling.{marks-there, short, told}
use Rattle.records.proofs.tell_parts.Goals as goal

pub returns-then-out-all : goal.returns-then-out-all
returns-then-out-all c = short c.args.sections.now.internals.now c.args.sections.now.calls.now c.args.sections.now.returns.now c.args.words.now c.args.map.now c.args.out.now c.if-out-all.true

pub slice_bounds-marks-end-2 : goal.slice_bounds-marks-end-2
slice_bounds-marks-end-2 c =
    marks-there c.args.sections.now.internals.now c.args.sections.now.calls.now c.args.sections.now.returns.now c.args.words.now c.args.map.now c.args.out.now c.if-out-all.false c.mark_parts.ensures

pub returns : goal.returns
returns c =
    told c.args.sections.now.internals.now c.args.sections.now.calls.now c.args.sections.now.returns.now c.args.words.now c.args.map.now c.args.out.now c.if-out-all.false c.mark_parts.ensures c.count_of.ensures c.count_of-2.ensures c.count_of-3.ensures
