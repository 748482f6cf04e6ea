-- `sat_counters::weigh_clause` meets its contract. The loop's invariant: the weights of the literals ahead are still to be added. Assumes nothing.
use borrow.Author.Rules.{rules}
use mathlib.Core.Path.{sym, ◌∙◌}
use native.Mathlib.Omega.{arith}
use Rattle.sat_counters.proofs.Weighing as laws
use Rattle.sat_counters.proofs.weigh_clause.Goals as goal
use Rattle.sat_counters.proofs.weigh_clause.Goals.{then-from-l, else-from-l}

pub literals-init : goal.literals-init
literals-init c = laws.weighing _ _

pub bounds-values-from : goal.bounds-values-from
bounds-values-from c =
    let the-taken = c.literals-test.true in
    search (rules, laws.variable-inside c.requires.0 c.literals.invariant the-taken)

pub overflow_add-l : goal.overflow_add-l
overflow_add-l c = record { fits = omega (arith, laws.variable-inside c.requires.0 c.literals.invariant c.literals-test.true, c.requires.1) }

pub overflow_add-sum : goal.overflow_add-sum
overflow_add-sum c =
    let small = laws.sum-small c.requires.0 c.literals.invariant c.literals-test.true c.from.ensures (λ e. c.if-from-l.true (c.from-in-literals.ensures ∙ e)) c.requires.1 c.requires.2 in
    record { fits = omega (arith, small, c.from-sum.ensures) }

pub literals-preserved : goal.literals-preserved
literals-preserved c =
    let i = c.literals.invariant in
    let t = c.literals-test.true in
    elim c.if-from-l.branch [
      | then-from-l w ↦ rw (w.sum-is, w.from-sum.ensures) (laws.weigh_it c.requires.0 i t c.from.ensures (λ e. w.if-from-l.true (c.from-in-literals.ensures ∙ e)))
      | else-from-l w ↦ rw w.sum-is (laws.weigh-past c.requires.0 i t c.from.ensures (sym c.from-in-literals.ensures ∙ w.if-from-l.false))
    ]

pub returns : goal.returns
returns c = laws.weighed c.literals.invariant c.literals-test.false
