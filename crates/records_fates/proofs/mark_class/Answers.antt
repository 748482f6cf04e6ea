-- `records_fates::mark_class` meets its contract: the marks of the class are written so far, and its images are stamped. Assumes nothing.
use Rattle.records_fates.proofs.Passing.{ahead, going, gone, skip, mark_on, record_placed, state-small}
use Prim.Native.Nat.{◌<◌, ◌≤◌, ◌+◌, ◌*◌, ℕ, ◌-◌}
use native.Mathlib.Omega.{arith}
use mathlib.Core.Path.{◌∙◌, sym, ap, subst, ◌≡◌}
use mathlib.Core.List.{List}
use lib.ListN.{take, drop, length}
use Rattle.table_spec.specs.Maps.{class_of}
use Rattle.records_fates.specs.Marks.{state_at, record_at, Stamped, Placed, records_in}
use Rattle.records_fates.proofs.Spans.{records-count, index-room, record_here, state-here}
use Rattle.records_fates.proofs.mark_class.Goals as goal

pub records-init : goal.records-init
records-init c = going _ _ _ _ _ _ _ _ c.requires.stamp_nonzero.0 c.requires.stamp_nonzero.1

pub overflow_mul-at : goal.overflow_mul-at
overflow_mul-at c =
    let here : c.records.i < records_in c.args.width c.args.section.now = omega (arith, c.records-test.true, records-count c.args.width c.args.section.now) in
    let some : 0 < c.args.width = omega (arith, c.requires.fitting.0.moves) in
    let room : c.records.i * c.args.width + c.args.width ≤ length c.args.section.now = index-room c.args.width c.args.section.now some c.records.i here in
    omega (arith, room)

pub overflow_add-next : goal.overflow_add-next
overflow_add-next c =
    let here : c.records.i < records_in c.args.width c.args.section.now = omega (arith, c.records-test.true, records-count c.args.width c.args.section.now) in
    let some : 0 < c.args.width = omega (arith, c.requires.fitting.0.moves) in
    let room : c.records.i * c.args.width + c.args.width ≤ length c.args.section.now = index-room c.args.width c.args.section.now some c.records.i here in
    omega (arith, room)

pub bounds-section-at : goal.bounds-section-at
bounds-section-at c =
    let here : c.records.i < records_in c.args.width c.args.section.now = omega (arith, c.records-test.true, records-count c.args.width c.args.section.now) in
    let some : 0 < c.args.width = omega (arith, c.requires.fitting.0.moves) in
    let room : c.records.i * c.args.width + c.args.width ≤ length c.args.section.now = index-room c.args.width c.args.section.now some c.records.i here in
    omega (arith, room)

pub slice_bounds-mark_of-end : goal.slice_bounds-mark_of-end
slice_bounds-mark_of-end c =
    let here : c.records.i < records_in c.args.width c.args.section.now = omega (arith, c.records-test.true, records-count c.args.width c.args.section.now) in
    let some : 0 < c.args.width = omega (arith, c.requires.fitting.0.moves) in
    let room : c.records.i * c.args.width + c.args.width ≤ length c.args.section.now = index-room c.args.width c.args.section.now some c.records.i here in
    omega (arith, room)

pub mark_of-requires : goal.mark_of-requires
mark_of-requires c =
    let here : c.records.i < records_in c.args.width c.args.section.now = omega (arith, c.records-test.true, records-count c.args.width c.args.section.now) in
    let some : 0 < c.args.width = omega (arith, c.requires.fitting.0.moves) in
    let fields : take (c.records.i * c.args.width + c.args.width - c.records.i * c.args.width) (drop (c.records.i * c.args.width) c.args.section.now) ≡ record_at c.args.width c.args.section.now c.records.i = record_here c.args.width c.args.section.now some c.records.i here in
    subst (Placed c.args.map.now) (sym fields) (record_placed c.requires.fitting.0 here)

pub bounds-out-i : goal.bounds-out-i
bounds-out-i c =
    let here : c.records.i < records_in c.args.width c.args.section.now = omega (arith, c.records-test.true, records-count c.args.width c.args.section.now) in
    omega (arith, here, c.records.invariant.long, c.requires.fitting.2)

pub records-smaller-then-from-class : goal.records-smaller-then-from-class
records-smaller-then-from-class c =
    let here : c.records.i < records_in c.args.width c.args.section.now = omega (arith, c.records-test.true, records-count c.args.width c.args.section.now) in
    omega (arith, here)

pub records-preserved-then-from-class : goal.records-preserved-then-from-class
records-preserved-then-from-class c =
    let here : c.records.i < records_in c.args.width c.args.section.now = omega (arith, c.records-test.true, records-count c.args.width c.args.section.now) in
    let some : 0 < c.args.width = omega (arith, c.requires.fitting.0.moves) in
    let fields : take (c.records.i * c.args.width + c.args.width - c.records.i * c.args.width) (drop (c.records.i * c.args.width) c.args.section.now) ≡ record_at c.args.width c.args.section.now c.records.i = record_here c.args.width c.args.section.now some c.records.i here in
    let class-here : c.from.result ≡ class_of c.args.map.now (state_at c.args.width c.args.section.now c.records.i) = c.from.ensures ∙ c.class_at.ensures ∙ ap (class_of c.args.map.now) (state-here c.args.width c.args.section.now some c.records.i here) in
    let s : Stamped c.args.words.now c.args.map.now c.args.stamp (record_at c.args.width c.args.section.now c.records.i) c.records.room c.mark_of.result c.mark_of.new.room =
    subst (λ (r : List ℕ). Stamped c.args.words.now c.args.map.now c.args.stamp r c.records.room c.mark_of.result c.mark_of.new.room) fields c.mark_of.ensures in
    mark_on c.requires.fitting.0 c.records.invariant here (sym class-here ∙ c.if-from-class.true) c.requires.fitting.2 s

pub offset_bounds-ends-from : goal.offset_bounds-ends-from
offset_bounds-ends-from c =
    let here : c.records.i < records_in c.args.width c.args.section.now = omega (arith, c.records-test.true, records-count c.args.width c.args.section.now) in
    let some : 0 < c.args.width = omega (arith, c.requires.fitting.0.moves) in
    let state : c.from-else-from-class.result ≡ state_at c.args.width c.args.section.now c.records.i = c.from-else-from-class.ensures ∙ state-here c.args.width c.args.section.now some c.records.i here in
    let small : c.from-else-from-class.result < 40 = omega (arith, state, state-small c.requires.fitting.0 here, c.requires.fitting.0.few-states) in
    omega (arith, small)

pub bounds-ends-from : goal.bounds-ends-from
bounds-ends-from c =
    let here : c.records.i < records_in c.args.width c.args.section.now = omega (arith, c.records-test.true, records-count c.args.width c.args.section.now) in
    let some : 0 < c.args.width = omega (arith, c.requires.fitting.0.moves) in
    let state : c.from-else-from-class.result ≡ state_at c.args.width c.args.section.now c.records.i = c.from-else-from-class.ensures ∙ state-here c.args.width c.args.section.now some c.records.i here in
    let small : c.from-else-from-class.result < 40 = omega (arith, state, state-small c.requires.fitting.0 here, c.requires.fitting.0.few-states) in
    small

pub records-smaller : goal.records-smaller
records-smaller c =
    let here : c.records.i < records_in c.args.width c.args.section.now = omega (arith, c.records-test.true, records-count c.args.width c.args.section.now) in
    let some : 0 < c.args.width = omega (arith, c.requires.fitting.0.moves) in
    let state : c.from-else-from-class.result ≡ state_at c.args.width c.args.section.now c.records.i = c.from-else-from-class.ensures ∙ state-here c.args.width c.args.section.now some c.records.i here in
    omega (arith, here, ahead c.requires.fitting.1 here state)

pub records-preserved : goal.records-preserved
records-preserved c =
    let here : c.records.i < records_in c.args.width c.args.section.now = omega (arith, c.records-test.true, records-count c.args.width c.args.section.now) in
    let some : 0 < c.args.width = omega (arith, c.requires.fitting.0.moves) in
    let class-here : c.from.result ≡ class_of c.args.map.now (state_at c.args.width c.args.section.now c.records.i) = c.from.ensures ∙ c.class_at.ensures ∙ ap (class_of c.args.map.now) (state-here c.args.width c.args.section.now some c.records.i here) in
    let state : c.from-else-from-class.result ≡ state_at c.args.width c.args.section.now c.records.i = c.from-else-from-class.ensures ∙ state-here c.args.width c.args.section.now some c.records.i here in
    skip c.requires.fitting.0 c.records.invariant c.requires.fitting.1 here state (λ e. c.if-from-class.false (class-here ∙ ap (class_of c.args.map.now) (sym state) ∙ e))

pub shape_of-out : goal.shape_of-out
shape_of-out c = c.records.invariant.long

pub returns : goal.returns
returns c = gone c.requires.fitting.0 c.records.invariant (omega (arith, c.records-test.false, records-count c.args.width c.args.section.now))
