-- `records_fates::ends_of` meets its contract: the ends among the records passed. Assumes nothing.
use native.Mathlib.Nat.{div-le_self}
use Prim.Native.Nat.{◌<◌, ◌≤◌, ◌+◌, ◌*◌, ◌-◌}
use native.Mathlib.Omega.{arith}
use mathlib.Core.Path.{◌≡◌, ◌∙◌}
use Rattle.records_fates.specs.Marks.{state_at, records_in}
use Rattle.records_fates.proofs.Passing.{state-small}
use lib.ListN.{length}
use Rattle.records_fates.proofs.Spans.{ending, ended, end_on, records-count, index-room, state-here}
use Rattle.records_fates.proofs.ends_of.Goals as goal

pub records-init : goal.records-init
records-init c = ending _ _

pub overflow_mul-i : goal.overflow_mul-i
overflow_mul-i c =
    let here : c.records.i < records_in c.args.width c.args.section.now = omega (arith, c.records-test.true, records-count c.args.width c.args.section.now) in
    let room : c.records.i * c.args.width + c.args.width ≤ length c.args.section.now = index-room c.args.width c.args.section.now (omega (arith, c.requires.moves)) c.records.i here in
    omega (arith, room)

pub bounds-section-i : goal.bounds-section-i
bounds-section-i c =
    let here : c.records.i < records_in c.args.width c.args.section.now = omega (arith, c.records-test.true, records-count c.args.width c.args.section.now) in
    let room : c.records.i * c.args.width + c.args.width ≤ length c.args.section.now = index-room c.args.width c.args.section.now (omega (arith, c.requires.moves)) c.records.i here in
    omega (arith, room)

pub offset_bounds-ends-state : goal.offset_bounds-ends-state
offset_bounds-ends-state c =
    let here : c.records.i < records_in c.args.width c.args.section.now = omega (arith, c.records-test.true, records-count c.args.width c.args.section.now) in
    let state : c.from-state.result ≡ state_at c.args.width c.args.section.now c.records.i = c.from-state.ensures ∙ state-here c.args.width c.args.section.now (omega (arith, c.requires.moves)) c.records.i here in
    let small : c.from-state.result < 40 = omega (arith, state, state-small c.requires here, c.requires.few-states) in
    omega (arith, small)

pub bounds-ends-state : goal.bounds-ends-state
bounds-ends-state c =
    let here : c.records.i < records_in c.args.width c.args.section.now = omega (arith, c.records-test.true, records-count c.args.width c.args.section.now) in
    let state : c.from-state.result ≡ state_at c.args.width c.args.section.now c.records.i = c.from-state.ensures ∙ state-here c.args.width c.args.section.now (omega (arith, c.requires.moves)) c.records.i here in
    let small : c.from-state.result < 40 = omega (arith, state, state-small c.requires here, c.requires.few-states) in
    small

pub records-preserved : goal.records-preserved
records-preserved c =
    let here : c.records.i < records_in c.args.width c.args.section.now = omega (arith, c.records-test.true, records-count c.args.width c.args.section.now) in
    let state : c.from-state.result ≡ state_at c.args.width c.args.section.now c.records.i = c.from-state.ensures ∙ state-here c.args.width c.args.section.now (omega (arith, c.requires.moves)) c.records.i here in
    let small : c.from-state.result < 40 = omega (arith, state, state-small c.requires here, c.requires.few-states) in
    end_on c.records.invariant here state small

pub returns : goal.returns
returns c = ended c.records.invariant (omega (arith, c.records-test.false, records-count c.args.width c.args.section.now))
