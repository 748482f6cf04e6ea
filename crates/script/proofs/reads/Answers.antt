-- `script::reads` meets its contract. Assumes nothing.
use borrow.Author.Rules.{rules}
use Rattle.tops_spec.specs.Tops.{start_words}
use native.Mathlib.Omega.{arith}
use mathlib.Core.Bool.{true, false}
use mathlib.Core.List.{[]}
use Rattle.table_spec.specs.File.{records}
use Rattle.script_spec.specs.Script.{moved, returned, started, ended}
use Rattle.script.proofs.Walking.{walking, walked, walked_open, room, walk-internal, walk_call, walk_none, walk-return}
use Rattle.script.proofs.Depths.{symbol-inside}
use Rattle.script.specs.Parts.{sections_read}
use Rattle.table_view.specs.Sections.{sectioned}
use lib.ListN.{get_or}
use Prim.Native.Nat.{◌-◌}
use mathlib.Core.Path.{refl, ap, ◌∙◌}
use Rattle.script.proofs.reads.Goals as goal

pub starts_of-moves-requires : goal.starts_of-moves-requires
starts_of-moves-requires c =
    (omega arith, c.requires.0.few, c.requires.0.internals-lent)

pub starts_of-opens-requires : goal.starts_of-opens-requires
starts_of-opens-requires c =
    (omega arith, c.requires.0.few, c.requires.0.calls-lent)

pub starts_of-closes-requires : goal.starts_of-closes-requires
starts_of-closes-requires c =
    (omega arith, c.requires.0.few, c.requires.0.returns-lent)

pub start_words-requires : goal.start_words-requires
start_words-requires c = (c.requires.0.few, refl)

pub script-init : goal.script-init
unfolding sectioned started start_words
script-init c =
    walking (sectioned 0 c.args.symbols.now c.args.states.now c.args.internals.now c.args.calls.now c.args.returns.now) _ _ c.start_words.ensures refl c.requires.2.shallow

pub bounds-symbols-a : goal.bounds-symbols-a
bounds-symbols-a c =
    let inside = symbol-inside _ c.args.script.now c.requires.2.known c.script.symbol-index c.script-test.true in
    let e = c.from-a.ensures in
    search rules

pub moved-level-requires : goal.moved-level-requires
moved-level-requires c =
    let inside = symbol-inside _ c.args.script.now c.requires.2.known c.script.symbol-index c.script-test.true in
    (c.requires.0.few, omega (arith, c.from-a.ensures, inside, c.requires.1), c.requires.0.internals-lent, c.starts_of-moves.ensures)

pub script-preserved-then-kind-eq0 : goal.script-preserved-then-kind-eq0
unfolding sectioned
script-preserved-then-kind-eq0 c =
    let e = ap (λ a. get_or c.args.symbols.now a 0) c.from-a.ensures in
    walk-internal c.script.invariant c.script-test.true e c.if-kind-eq0.true (c.moved-level.ensures ∙ ap (λ a. moved (records 3 c.args.internals.now) a false c.script.level) c.from-a.ensures)

pub offset_bounds-levels-depth : goal.offset_bounds-levels-depth
unfolding sectioned
offset_bounds-levels-depth c =
    let e = ap (λ a. get_or c.args.symbols.now a 0) c.from-a.ensures in
    let room = room c.script.invariant c.script-test.true e c.if-kind-eq1.true in
    search rules

pub bounds-levels-depth : goal.bounds-levels-depth
unfolding sectioned
bounds-levels-depth c =
    let e = ap (λ a. get_or c.args.symbols.now a 0) c.from-a.ensures in
    let room = room c.script.invariant c.script-test.true e c.if-kind-eq1.true in
    search rules

pub overflow_add-depth : goal.overflow_add-depth
unfolding sectioned
overflow_add-depth c =
    let e = ap (λ a. get_or c.args.symbols.now a 0) c.from-a.ensures in
    let room = room c.script.invariant c.script-test.true e c.if-kind-eq1.true in
    search rules

pub moved-level-requires-then-kind-eq1 : goal.moved-level-requires-then-kind-eq1
moved-level-requires-then-kind-eq1 c =
    let inside = symbol-inside _ c.args.script.now c.requires.2.known c.script.symbol-index c.script-test.true in
    (c.requires.0.few, omega (arith, c.from-a.ensures, inside, c.requires.1), c.requires.0.calls-lent, c.starts_of-opens.ensures)

pub script-preserved-then-kind-eq1 : goal.script-preserved-then-kind-eq1
unfolding sectioned
script-preserved-then-kind-eq1 c =
    let e = ap (λ a. get_or c.args.symbols.now a 0) c.from-a.ensures in
    walk_call c.script.invariant c.script-test.true e c.if-kind-eq1.true (c.moved-level-then-kind-eq1.ensures ∙ ap (λ a. moved (records 3 c.args.calls.now) a true c.script.level) c.from-a.ensures)

pub returns-then-depth-eq0 : goal.returns-then-depth-eq0
unfolding sectioned sections_read
returns-then-depth-eq0 c =
    let e = ap (λ a. get_or c.args.symbols.now a 0) c.from-a.ensures in
    walk_none c.script.invariant c.script-test.true e c.if-kind-eq0.false c.if-kind-eq1.false c.if-depth-eq0.true

pub offset_bounds-levels-depth-in-script : goal.offset_bounds-levels-depth-in-script
offset_bounds-levels-depth-in-script c =
    let few = c.script.invariant.few in
    search rules

pub bounds-levels-depth-in-script : goal.bounds-levels-depth-in-script
bounds-levels-depth-in-script c =
    let few = c.script.invariant.few in
    search rules

pub returned-level-requires : goal.returned-level-requires
returned-level-requires c =
    let inside = symbol-inside _ c.args.script.now c.requires.2.known c.script.symbol-index c.script-test.true in
    (c.requires.0.few, omega (arith, c.from-a.ensures, inside, c.requires.1), c.requires.0.returns-lent, c.starts_of-closes.ensures)

pub script-preserved : goal.script-preserved
unfolding sectioned
script-preserved c =
    let e = ap (λ a. get_or c.args.symbols.now a 0) c.from-a.ensures in
    walk-return c.script.invariant c.script-test.true e c.if-kind-eq0.false c.if-kind-eq1.false c.if-depth-eq0.false
    (c.returned-level.ensures ∙ ap (λ a. returned (records 4 c.args.returns.now) a c.script.level (get_or c.script.levels (c.script.depth - 1) [])) c.from-a.ensures)

pub returns-then-depth-ne0 : goal.returns-then-depth-ne0
unfolding sections_read
returns-then-depth-ne0 c = walked_open c.script.invariant c.script-test.false c.if-depth-ne0.true

pub ended-requires : goal.ended-requires
ended-requires c = c.requires.0.few

pub returns : goal.returns
unfolding sectioned sections_read ended
returns c =
    walked c.script.invariant c.script-test.false c.if-depth-ne0.false c.ended.ensures
