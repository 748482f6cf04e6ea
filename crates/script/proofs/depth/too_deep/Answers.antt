-- `script::depth::too_deep` meets its contract. Assumes nothing.
use borrow.Author.Rules.{rules}
use mathlib.Core.Path.{ap}
use lib.ListN.{get_or}
use Rattle.script.proofs.Depths.{symbol-inside, deepening, deep_none, deepen_internal, deepen_call, deepen_last, deepen_return, deepen_end}
use Rattle.script.proofs.depth.too_deep.Goals as goal

pub script-init : goal.script-init
script-init c = deepening _ _

pub bounds-symbols-from : goal.bounds-symbols-from
bounds-symbols-from c = let h = symbol-inside _ c.args.script.now c.requires c.script.a-index c.script-test.true in search rules

pub script-preserved-then-kind-eq0 : goal.script-preserved-then-kind-eq0
script-preserved-then-kind-eq0 c =
    deepen_internal c.script.invariant c.script-test.true (ap (λ a. get_or c.args.symbols.now a 0) c.from.ensures) c.if-kind-eq0.true

pub returns-then-depth-eq-OPEN : goal.returns-then-depth-eq-OPEN
returns-then-depth-eq-OPEN c =
    deepen_last c.script.invariant c.script-test.true (ap (λ a. get_or c.args.symbols.now a 0) c.from.ensures) c.if-kind-eq1.true c.if-depth-eq-OPEN.true

pub overflow_add-depth : goal.overflow_add-depth
overflow_add-depth c = let f = c.script.invariant.few in search rules

pub script-preserved-then-kind-eq1 : goal.script-preserved-then-kind-eq1
script-preserved-then-kind-eq1 c =
    deepen_call c.script.invariant c.script-test.true (ap (λ a. get_or c.args.symbols.now a 0) c.from.ensures) c.if-kind-eq1.true c.if-depth-eq-OPEN.false

pub returns-then-depth-eq0 : goal.returns-then-depth-eq0
returns-then-depth-eq0 c =
    deepen_end c.script.invariant c.script-test.true (ap (λ a. get_or c.args.symbols.now a 0) c.from.ensures) c.if-kind-eq0.false c.if-kind-eq1.false c.if-depth-eq0.true

pub script-preserved : goal.script-preserved
script-preserved c =
    deepen_return c.script.invariant c.script-test.true (ap (λ a. get_or c.args.symbols.now a 0) c.from.ensures) c.if-kind-eq0.false c.if-kind-eq1.false c.if-depth-eq0.false

pub returns : goal.returns
returns c = deep_none c.script.invariant c.script-test.false
