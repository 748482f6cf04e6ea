-- `check_sections::filter_live` meets its contract: the live returns among the records taken. Assumes nothing.
use mathlib.Core.Path.{◌≡◌, sym, ap, ◌∙◌}
use mathlib.Core.List.{◌++◌}
use Prim.Native.Nat.{◌+◌, ◌-◌}
use native.Mathlib.Omega.{arith}
use lib.ListN.{length, take}
use borrow.Rule.Slice.PartMut.{same_len_mid}
use Rattle.std.proofs.lemmas.Slice.{take-put_mid}
use Rattle.check_sections.proofs.Live.{filter-live-full, filter-live-room, filter-live-past, filter-live_on, all_gathered}
use Rattle.check_sections.proofs.filter_live.Goals as goal

pub slice_bounds-copy_from_slice-end : goal.slice_bounds-copy_from_slice-end
slice_bounds-copy_from_slice-end c =
    let r = filter-live-room c.records.invariant _ _ c.in-Some.ensures.steps.1 in
    omega (arith, r.0, c.records.invariant.long)

pub records-preserved-then-keeps : goal.records-preserved-then-keeps
records-preserved-then-keeps c =
    let r = filter-live-room c.records.invariant _ _ c.in-Some.ensures.steps.1 in
    let e = c.copy_from_slice.ensures.after in
    let long : c.records.n + 4 ≡ c.records.n + length c.copy_from_slice.new.self = omega (arith, r.1, ap length e) in
    filter-live_on c.records.invariant _ _ c.in-Some.ensures.steps.1 _ c.in-Some.ensures.steps.0 (sym c.keeps.ensures ∙ c.if-keeps.true) (same_len_mid c.records.n (c.records.n + 4 - c.records.n) c.records.live c.copy_from_slice.new.self c.copy_from_slice.ensures.len)
    (take-put_mid c.records.n (c.records.n + 4 - c.records.n) c.records.live c.copy_from_slice.new.self (c.records.n + 4) long (omega (arith, r.0, c.records.invariant.long)) ∙ ap (λ ys. take c.records.n c.records.live ++ ys) e)

pub records-preserved : goal.records-preserved
records-preserved c =
    filter-live-past c.records.invariant _ _ c.in-Some.ensures.steps.1 c.in-Some.ensures.steps.0 (sym c.keeps.ensures ∙ c.if-keeps.false)

pub returns : goal.returns
returns c = (filter-live-full c.records.invariant, all_gathered c.records.invariant c.in-None.ensures.steps.1.0)
