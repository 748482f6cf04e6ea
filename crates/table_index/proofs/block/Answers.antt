-- `table_index::block` meets its contract. Assumes nothing.
use native.Mathlib.Omega.{arith}
use Rattle.table_spec.specs.File.{records}
use Rattle.table_index.proofs.Blocks.{Block, begins_at, block_starts, block_ends, block_records}
use Rattle.table_index.proofs.block.Goals as goal

pub overflow_mul-at : goal.overflow_mul-at
overflow_mul-at c =
    let between : Block c.args.width c.args.section.now c.args.q c.args.a c.from-from.result c.from-to.result = let rs = records c.args.width c.args.section.now in
    let starts = c.args.starts.now in
    let w = c.from.ensures in
    let v = c.from-2.ensures in
    record {
      wide = c.requires.0;
      lent = c.requires.1;
      symbol = c.requires.4;
      low = begins_at rs starts c.requires.2.here (omega (arith, w, v)) c.from-from.ensures;
      high = begins_at rs starts c.requires.2.next (omega (arith, w, v)) c.from-to.ensures;
    } in
    omega (arith, block_starts between, block_ends between, c.well_formed.0.0)

pub overflow_mul-end : goal.overflow_mul-end
overflow_mul-end c =
    let between : Block c.args.width c.args.section.now c.args.q c.args.a c.from-from.result c.from-to.result = let rs = records c.args.width c.args.section.now in
    let starts = c.args.starts.now in
    let w = c.from.ensures in
    let v = c.from-2.ensures in
    record {
      wide = c.requires.0;
      lent = c.requires.1;
      symbol = c.requires.4;
      low = begins_at rs starts c.requires.2.here (omega (arith, w, v)) c.from-from.ensures;
      high = begins_at rs starts c.requires.2.next (omega (arith, w, v)) c.from-to.ensures;
    } in
    omega (arith, block_ends between, c.well_formed.0.0)

pub slice_bounds-result-count : goal.slice_bounds-result-count
slice_bounds-result-count c =
    let between : Block c.args.width c.args.section.now c.args.q c.args.a c.from-from.result c.from-to.result = let rs = records c.args.width c.args.section.now in
    let starts = c.args.starts.now in
    let w = c.from.ensures in
    let v = c.from-2.ensures in
    record {
      wide = c.requires.0;
      lent = c.requires.1;
      symbol = c.requires.4;
      low = begins_at rs starts c.requires.2.here (omega (arith, w, v)) c.from-from.ensures;
      high = begins_at rs starts c.requires.2.next (omega (arith, w, v)) c.from-to.ensures;
    } in
    block_starts between

pub slice_bounds-result-start : goal.slice_bounds-result-start
slice_bounds-result-start c =
    let between : Block c.args.width c.args.section.now c.args.q c.args.a c.from-from.result c.from-to.result = let rs = records c.args.width c.args.section.now in
    let starts = c.args.starts.now in
    let w = c.from.ensures in
    let v = c.from-2.ensures in
    record {
      wide = c.requires.0;
      lent = c.requires.1;
      symbol = c.requires.4;
      low = begins_at rs starts c.requires.2.here (omega (arith, w, v)) c.from-from.ensures;
      high = begins_at rs starts c.requires.2.next (omega (arith, w, v)) c.from-to.ensures;
    } in
    block_starts between

pub slice_bounds-result-end : goal.slice_bounds-result-end
slice_bounds-result-end c =
    let between : Block c.args.width c.args.section.now c.args.q c.args.a c.from-from.result c.from-to.result = let rs = records c.args.width c.args.section.now in
    let starts = c.args.starts.now in
    let w = c.from.ensures in
    let v = c.from-2.ensures in
    record {
      wide = c.requires.0;
      lent = c.requires.1;
      symbol = c.requires.4;
      low = begins_at rs starts c.requires.2.here (omega (arith, w, v)) c.from-from.ensures;
      high = begins_at rs starts c.requires.2.next (omega (arith, w, v)) c.from-to.ensures;
    } in
    block_ends between

pub returns : goal.returns
returns c =
    let between : Block c.args.width c.args.section.now c.args.q c.args.a c.from-from.result c.from-to.result = let rs = records c.args.width c.args.section.now in
    let starts = c.args.starts.now in
    let w = c.from.ensures in
    let v = c.from-2.ensures in
    record {
      wide = c.requires.0;
      lent = c.requires.1;
      symbol = c.requires.4;
      low = begins_at rs starts c.requires.2.here (omega (arith, w, v)) c.from-from.ensures;
      high = begins_at rs starts c.requires.2.next (omega (arith, w, v)) c.from-to.ensures;
    } in
    block_records between
