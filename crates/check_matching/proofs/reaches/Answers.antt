-- `check_matching::reaches` meets its contract: a record that goes to a joined target ends it, and the others leave the answer to the rest. Assumes nothing.
use mathlib.Core.Path.{◌≡◌, sym, ap, ◌∙◌}
use Prim.Native.Nat.{◌-◌}
use Rattle.std.specs.Slice.Iter.{chunks_exact_rest}
use Rattle.table_spec.specs.File.{records}
use Rattle.table_spec.proofs.Chunks.{taken, on, ended}
use Rattle.check_matching.proofs.Reaching.{goes_by, over-targets}
use Rattle.check_matching.proofs.reaches.Goals as goal

pub returns-then-is_in : goal.returns-then-is_in
returns-then-is_in c =
    let found : chunks_exact_rest c.into_iter-fields-iterator.result ≡ c.equal_range-found.result.now = ap chunks_exact_rest c.into_iter-fields-iterator.ensures.into_iter_gives ∙ c.chunks_exact-fields-items.ensures.rest in
    λ k d. over-targets c.args.width c.args.section.now k (chunks_exact_rest c.into_iter-fields-iterator.result) c.args.map.now c.args.target d.long (ap (records c.args.width) found ∙ c.equal_range-found.ensures k d c.requires.1)
    (sym (taken c.records.invariant _ _ c.in-Some.ensures.steps.1 ∙ rw (goes_by c.args.map.now c.args.target (c.args.width - 1) c.in-Some.fields.now c.class_of-class.ensures c.from.ensures c.is_in.ensures c.if-is_in.true)))

pub records-preserved : goal.records-preserved
records-preserved c =
    on c.records.invariant _ _ c.in-Some.ensures.steps.0 c.in-Some.ensures.steps.1 (rw (goes_by c.args.map.now c.args.target (c.args.width - 1) c.in-Some.fields.now c.class_of-class.ensures c.from.ensures c.is_in.ensures c.if-is_in.false))

pub returns : goal.returns
returns c =
    let found : chunks_exact_rest c.into_iter-fields-iterator.result ≡ c.equal_range-found.result.now = ap chunks_exact_rest c.into_iter-fields-iterator.ensures.into_iter_gives ∙ c.chunks_exact-fields-items.ensures.rest in
    λ k d. over-targets c.args.width c.args.section.now k (chunks_exact_rest c.into_iter-fields-iterator.result) c.args.map.now c.args.target d.long (ap (records c.args.width) found ∙ c.equal_range-found.ensures k d c.requires.1)
    (sym (ended c.records.invariant c.in-None.ensures.steps.1.0))
