-- `fit_worklist::pop_all` meets its contract. The invariant: the rows hold tops and links only. Assumes nothing.
use mathlib.Core.Path.{sym, ◌∙◌}
use native.Mathlib.Omega.{arith}
use borrow.Author.Rules.{rules}
use Rattle.fit_rounds.proofs.Passing.{few-pairs}
use Rattle.fit_links.proofs.Quickly.{popping_on, tops_on}
use Rattle.fit_worklist.proofs.pop_all.Goals as goal

pub overflow_mul-pairs : goal.overflow_mul-pairs
overflow_mul-pairs c =
    let h = few-pairs c.requires.5 c.requires.2.few in search rules

pub tops-init : goal.tops-init
tops-init c = popping_on _ _ _ _ _ _ _ _

pub overflow_mul-i : goal.overflow_mul-i
overflow_mul-i c =
    let h = few-pairs c.requires.5 c.requires.2.few in let l = c.tops-test.true in let g = c.pair-u.ensures.1 in search rules

pub overflow_add-i : goal.overflow_add-i
overflow_add-i c =
    let h = few-pairs c.requires.5 c.requires.2.few in let l = c.tops-test.true in let g = c.pair-u.ensures.1 in search rules

pub offset_bounds-rows-i : goal.offset_bounds-rows-i
offset_bounds-rows-i c =
    let h = few-pairs c.requires.5 c.requires.2.few in let l = c.tops-test.true in let g = c.pair-u.ensures.1 in search rules

pub bounds-rows-i : goal.bounds-rows-i
bounds-rows-i c =
    let h = few-pairs c.requires.5 c.requires.2.few in let l = c.tops-test.true in let g = c.pair-u.ensures.1 in search rules

pub offset_bounds-popped-i : goal.offset_bounds-popped-i
offset_bounds-popped-i c =
    let h = few-pairs c.requires.5 c.requires.2.few in let l = c.tops-test.true in let g = c.pair-u.ensures.1 in search rules

pub bounds-popped-i : goal.bounds-popped-i
bounds-popped-i c =
    let h = few-pairs c.requires.5 c.requires.2.few in let l = c.tops-test.true in let g = c.pair-u.ensures.1 in search rules

pub overflow_add-y : goal.overflow_add-y
overflow_add-y c =
    let h = few-pairs c.requires.5 c.requires.2.few in let l = c.tops-test.true in let g = c.pair-u.ensures.1 in search rules

pub overflow_mul-y : goal.overflow_mul-y
overflow_mul-y c =
    let h = few-pairs c.requires.5 c.requires.2.few in let l = c.tops-test.true in let g = c.pair-u.ensures.1 in search rules

pub tops-smaller-then-rows-i : goal.tops-smaller-then-rows-i
tops-smaller-then-rows-i c = omega (arith, c.tops-test.true)

pub tops-preserved-then-rows-i : goal.tops-preserved-then-rows-i
tops-preserved-then-rows-i c = c.tops.invariant

pub held-requires : goal.held-requires
held-requires c =
    (c.pair-u.ensures.1, omega (arith, few-pairs c.requires.5 c.requires.2.few, c.tops-test.true))

pub overflow_add-y-then-not-held : goal.overflow_add-y-then-not-held
overflow_add-y-then-not-held c =
    let h = few-pairs c.requires.5 c.requires.2.few in let l = c.tops-test.true in let g = c.pair-u.ensures.1 in search rules

pub tops-smaller-then-not-held : goal.tops-smaller-then-not-held
tops-smaller-then-not-held c = omega (arith, c.tops-test.true)

pub tops-preserved-then-not-held : goal.tops-preserved-then-not-held
tops-preserved-then-not-held c = c.tops.invariant

pub held-requires-in-tops : goal.held-requires-in-tops
held-requires-in-tops c =
    (c.pair-u.ensures.1, omega (arith, few-pairs c.requires.5 c.requires.2.few, c.tops-test.true))

pub overflow_add-y-then-held : goal.overflow_add-y-then-held
overflow_add-y-then-held c =
    let h = few-pairs c.requires.5 c.requires.2.few in let l = c.tops-test.true in let g = c.pair-u.ensures.1 in search rules

pub tops-smaller-then-held : goal.tops-smaller-then-held
tops-smaller-then-held c = omega (arith, c.tops-test.true)

pub tops-preserved-then-held : goal.tops-preserved-then-held
tops-preserved-then-held c = c.tops.invariant

pub put-requires : goal.put-requires
put-requires c =
    (c.pair-u.ensures.1, omega (arith, few-pairs c.requires.5 c.requires.2.few, c.tops-test.true))

pub pop_over-requires : goal.pop_over-requires
pop_over-requires c =
    (c.requires.0, c.requires.1, c.requires.2, c.requires.3, c.requires.4, omega (arith, few-pairs c.requires.5 c.requires.2.few, c.tops-test.true))

pub overflow_add-y-in-tops : goal.overflow_add-y-in-tops
overflow_add-y-in-tops c =
    let h = few-pairs c.requires.5 c.requires.2.few in let l = c.tops-test.true in let g = c.pair-u.ensures.1 in search rules

pub tops-smaller : goal.tops-smaller
tops-smaller c = omega (arith, c.tops-test.true)

pub tops-preserved : goal.tops-preserved
tops-preserved c =
    tops_on c.tops.invariant c.tops-test.true c.pair-u.ensures.0 (λ F h. sym c.if-not-held.false ∙ c.held.ensures F h) c.pop_over.ensures

pub returns : goal.returns
returns c = c.tops.invariant.kept
