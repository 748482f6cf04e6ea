-- `basilvault::reduce_lent` meets its contract: what is printed of the buffers is there, and the text is that of the answer. Assumes nothing.
use mathlib.Core.Path.{◌≡◌, refl, sym, ◌∙◌}
use Prim.Native.Nat.{ℕ}
use native.Mathlib.Omega.{arith}
use lib.ListN.{length-take, length-replicate}
use lib.Seq.{length-take-le}
use borrow.Author.Rules.{rules}
use Rattle.reduce_spec.proofs.Theorems.{delivered_fits}
use Rattle.reduce.specs.States.{states_of}
use Rattle.reduce.proofs.States.{readable-states}
use Rattle.print_spec.specs.Program.{widest}
use Rattle.print_spec.specs.Lines.{refused_text}
use Rattle.print_lines.proofs.Putting.{put_on, put_whole}
use Rattle.print_spec.proofs.Going.{delivered_checked, map-checked, delivered_text, refused_text_lem}
use Rattle.basilvault.proofs.reduce_lent.Goals as goal

pub widest-limits-requires : goal.widest-limits-requires
widest-limits-requires c = search rules

pub slice_bounds-reduce_within-end : goal.slice_bounds-reduce_within-end
slice_bounds-reduce_within-end c = refl

pub slice_bounds-reduce_within-end-2 : goal.slice_bounds-reduce_within-end-2
slice_bounds-reduce_within-end-2 c = refl

pub slice_bounds-reduce_within-end-3 : goal.slice_bounds-reduce_within-end-3
slice_bounds-reduce_within-end-3 c = refl

pub reduce_within-answer-requires : goal.reduce_within-answer-requires
reduce_within-answer-requires c = search rules

pub state_count-n-requires : goal.state_count-n-requires
state_count-n-requires c = search rules

pub put_counts-at-requires : goal.put_counts-at-requires
put_counts-at-requires c = omega (arith, c.requires)

-- after the count of states: the map buffer and the output have room for what is delivered, and the check accepts the map
pub slice_bounds-map-end : goal.slice_bounds-map-end
slice_bounds-map-end c = omega (arith, c.state_count-n.ensures.few, c.reduce_within-answer.auto.map, length-replicate {A = ℕ} 40 0)

pub slice_bounds-put_map-end : goal.slice_bounds-put_map-end
slice_bounds-put_map-end c =
    sym (length-take-le _ _ (omega (arith, c.state_count-n.ensures.few, c.reduce_within-answer.auto.map, length-replicate {A = ℕ} 40 0)))

pub put_map-at-requires : goal.put_map-at-requires
put_map-at-requires c =
    simp length-take (omega (arith, c.requires, c.put_counts-at.ensures.few, c.put_counts-at.ensures.put.long, c.reduce_within-answer.auto.map, length-replicate {A = ℕ} 40 0))

pub slice_bounds-out-end : goal.slice_bounds-out-end
slice_bounds-out-end c =
    omega (arith, delivered_fits _ _ 100000 _ _ _ c.reduce_within-answer.ensures.answers c.in-Ok.is, c.reduce_within-answer.auto.out, length-replicate {A = ℕ} 22644 0)

pub slice_bounds-put_table-end : goal.slice_bounds-put_table-end
slice_bounds-put_table-end c =
    sym (length-take-le _ _ (omega (arith, delivered_fits _ _ 100000 _ _ _ c.reduce_within-answer.ensures.answers c.in-Ok.is, c.reduce_within-answer.auto.out, length-replicate {A = ℕ} 22644 0)))

pub put_table-at-requires : goal.put_table-at-requires
put_table-at-requires c =
    simp length-take (omega (arith, c.requires, c.put_counts-at.ensures.few, c.put_counts-at.ensures.put.long, simp length-take at c.put_map-at.ensures.few, c.put_map-at.ensures.put.long, c.reduce_within-answer.auto.map, length-replicate {A = ℕ} 40 0, c.reduce_within-answer.auto.out, length-replicate {A = ℕ} 22644 0))

pub slice_bounds-map-end-in-Ok : goal.slice_bounds-map-end-in-Ok
slice_bounds-map-end-in-Ok c = omega (arith, c.state_count-n.ensures.few, c.reduce_within-answer.auto.map, length-replicate {A = ℕ} 40 0)

pub slice_bounds-put_going-end : goal.slice_bounds-put_going-end
slice_bounds-put_going-end c =
    sym (length-take-le _ _ (omega (arith, c.state_count-n.ensures.few, c.reduce_within-answer.auto.map, length-replicate {A = ℕ} 40 0)))

pub put_going-requires : goal.put_going-requires
put_going-requires c =
    let b = c.args.table.now in
    let n : c.state_count-n.result ≡ states_of widest b = rw c.widest-limits.ensures at c.state_count-n.ensures.states in
    let checked = map-checked widest b _ (λ h. n ∙ sym (readable-states widest b h)) (delivered_checked widest b _ c.in-Ok.is (rw c.widest-limits.ensures at c.reduce_within-answer.ensures.promises.checked)) in
    (checked.1, omega (arith, c.requires, c.put_counts-at.ensures.few, c.put_counts-at.ensures.put.long, simp length-take at c.put_map-at.ensures.few, c.put_map-at.ensures.put.long, simp length-take at c.put_table-at.ensures.few, c.put_table-at.ensures.put.long, c.reduce_within-answer.auto.map, length-replicate {A = ℕ} 40 0, c.reduce_within-answer.auto.out, length-replicate {A = ℕ} 22644 0))

pub put_number-at-requires : goal.put_number-at-requires
put_number-at-requires c = omega (arith, c.requires)

pub put-requires : goal.put-requires
put-requires c = omega (arith, c.requires, c.put_number-at.ensures.few, c.put_number-at.ensures.put.long)

pub returns-in-Ok-clause-text_after : goal.returns-in-Ok-clause-text_after
returns-in-Ok-clause-text_after c =
    let b = c.args.table.now in
    let n : c.state_count-n.result ≡ states_of widest b = rw c.widest-limits.ensures at c.state_count-n.ensures.states in
    let checked = map-checked widest b _ (λ h. n ∙ sym (readable-states widest b h)) (delivered_checked widest b _ c.in-Ok.is (rw c.widest-limits.ensures at c.reduce_within-answer.ensures.promises.checked)) in
    let e = rw c.widest-limits.ensures at c.reduce_within-answer.ensures.answers in
    (put_whole (delivered_text b e c.in-Ok.is checked.0) (put_on (put_on (put_on c.put_counts-at.ensures.put c.put_map-at.ensures.put) c.put_table-at.ensures.put) c.put_going.ensures)).0

pub returns-in-Ok-clause-there : goal.returns-in-Ok-clause-there
returns-in-Ok-clause-there c = (c.put_going.ensures.inside, sym (length-take-le _ _ c.put_going.ensures.inside))

pub returns-in-Err-clause-text_after : goal.returns-in-Err-clause-text_after
unfolding refused_text
returns-in-Err-clause-text_after c =
    let e = rw c.widest-limits.ensures at c.reduce_within-answer.ensures.answers in
    (put_whole (refused_text_lem c.args.table.now e c.in-Err.is) (put_on (rw c.from.ensures at c.put_number-at.ensures.put) c.put.ensures)).0

pub returns-in-Err-clause-there : goal.returns-in-Err-clause-there
returns-in-Err-clause-there c = (c.put.ensures.inside, sym (length-take-le _ _ c.put.ensures.inside))
