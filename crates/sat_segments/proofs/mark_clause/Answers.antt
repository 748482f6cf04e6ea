-- `sat_segments::mark_clause` meets its contract. The loop's invariant: the literals passed are marked. Assumes nothing.
use native.Mathlib.Omega.{arith}
use Prim.Native.Nat.{◌<◌}
use Rattle.lists.proofs.Members.{get_d_mem}
use Rattle.sat_segments.proofs.Cutting as laws
use Rattle.sat_segments.proofs.mark_clause.Goals as goal

pub literals-init : goal.literals-init
literals-init c = laws.noting _ _ _

pub overflow_mul-at : goal.overflow_mul-at
overflow_mul-at c =
    let small : c.from.result < 780 = let l = c.args.literals.now in
    omega (arith, c.from.ensures, c.requires.0 _ (get_d_mem l c.literals.literal-index 0 c.literals-test.true)) in
    omega (arith, small)

pub overflow_add-at : goal.overflow_add-at
overflow_add-at c =
    let small : c.from.result < 780 = let l = c.args.literals.now in
    omega (arith, c.from.ensures, c.requires.0 _ (get_d_mem l c.literals.literal-index 0 c.literals-test.true)) in
    omega (arith, small, c.requires.1)

pub bounds-masks-at : goal.bounds-masks-at
bounds-masks-at c =
    let small : c.from.result < 780 = let l = c.args.literals.now in
    omega (arith, c.from.ensures, c.requires.0 _ (get_d_mem l c.literals.literal-index 0 c.literals-test.true)) in
    omega (arith, small, c.requires.1)

pub bounds-masks-at-in-literals : goal.bounds-masks-at-in-literals
bounds-masks-at-in-literals c =
    let small : c.from.result < 780 = let l = c.args.literals.now in
    omega (arith, c.from.ensures, c.requires.0 _ (get_d_mem l c.literals.literal-index 0 c.literals-test.true)) in
    omega (arith, small, c.requires.1)

pub literals-preserved : goal.literals-preserved
literals-preserved c =
    let small : c.from.result < 780 = let l = c.args.literals.now in
    omega (arith, c.from.ensures, c.requires.0 _ (get_d_mem l c.literals.literal-index 0 c.literals-test.true)) in
    laws.note_on c.literals.invariant c.literals-test.true c.from.ensures small c.requires.1 c.requires.2 c.bit-own.ensures

pub returns : goal.returns
returns c = laws.note_all c.literals.invariant c.literals-test.false
