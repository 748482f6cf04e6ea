-- `uses::add_lines` meets its contract. The loop's invariant: what the lines that are left add to the sums and the total as they are. Assumes nothing.
use borrow.Author.Rules.{rules}
use mathlib.Core.Path.{ap, ◌∙◌}
use Prim.Native.Nat.{◌<◌}
use native.Mathlib.Omega.{arith}
use Rattle.std.specs.Slice.Iter.{chunks_exact_rest, chunks_exact_size}
use Rattle.table_spec.specs.Maps.{class_of}
use Rattle.uses.proofs.Adding.{adding, room, added, added_all, added_fits}
use Rattle.uses.proofs.add_lines.Goals as goal

-- the class of a line
small : (c : goal.After-from-class) → c.from-class.result < 40
small c =
    omega (arith, c.from-class.ensures, c.class_of.ensures, c.requires.1 c.state_in.result)

pub lines-init : goal.lines-init
lines-init c =
    let e = c.into_iter-line-iterator.ensures.into_iter_gives in
    let n = c.chunks_exact-line-items.ensures in
    adding _ _ c.requires.0 (ap chunks_exact_size e ∙ n.size) (ap chunks_exact_rest e ∙ n.rest)

pub bounds-sums-class : goal.bounds-sums-class
bounds-sums-class c = let h = small c in search rules

pub overflow_add-sums : goal.overflow_add-sums
overflow_add-sums c = let h = room c.lines.invariant _ _ c.in-Some.ensures.steps.1 (small c) c.uses_in-uses.ensures.small in search rules

pub bounds-sums-class-in-lines : goal.bounds-sums-class-in-lines
bounds-sums-class-in-lines c = let h = small c in search rules

pub lines-preserved : goal.lines-preserved
lines-preserved c =
    added c.lines.invariant _ _ c.in-Some.ensures.steps.1 (small c) c.uses_in-uses.ensures.small c.uses_in-uses.ensures.value
    (c.from-class.ensures ∙ c.class_of.ensures ∙ ap (class_of c.args.map.now) c.state_in.ensures) c.in-Some.ensures.steps.0

pub returns : goal.returns
returns c =
    record { value = added_all c.lines.invariant c.in-None.ensures.steps.1.0; fits = added_fits c.lines.invariant c.in-None.ensures.steps.1.0 }
