-- `table_index::starts_of` meets its contract: one record more is passed, and the entries up to its place are made. Assumes nothing.
use mathlib.Core.Path.{◌≡◌}
use mathlib.Core.List.{[]}
use Prim.Native.Nat.{◌+◌, ◌*◌, ◌<◌}
use native.Mathlib.Omega.{arith}
use lib.ListN.{length, get_or}
use Rattle.table_spec.specs.File.{records}
use Rattle.table_spec.proofs.Bytes.{length-records}
use Rattle.table_index.specs.Index.{place_of}
use Rattle.table_index.proofs.Index.{at_record, indexed, place-room, before_place, before_end, index_on}
use Rattle.table_index.proofs.starts_of.Goals as goal

pub fill-requires : goal.fill-requires
fill-requires c =
    let l : c.records.k < length (records c.args.width c.args.section.now) = omega (arith, c.records-test.true, length-records c.args.width c.args.section.now) in
    let r = at_record c.requires.0 c.requires.2 c.records-test.true in
    let e : c.from.result * 64 + c.from-in-records.result ≡ place_of (get_or (records c.args.width c.args.section.now) c.records.k []) = omega (arith, r, c.from.ensures, c.from-in-records.ensures) in
    (before_place c.requires.0 c.requires.1 c.requires.2 c.records.invariant l e, omega (arith, place-room c.requires.0 c.requires.1 c.requires.2 c.records.invariant l e, c.records.invariant.long))

pub records-preserved : goal.records-preserved
records-preserved c =
    let l : c.records.k < length (records c.args.width c.args.section.now) = omega (arith, c.records-test.true, length-records c.args.width c.args.section.now) in
    let r = at_record c.requires.0 c.requires.2 c.records-test.true in
    index_on c.requires.0 c.requires.1 c.requires.2 c.records.invariant l (omega (arith, r, c.from.ensures, c.from-in-records.ensures)) c.fill.ensures

pub fill-requires-2 : goal.fill-requires-2
fill-requires-2 c = (before_end c.requires.0 c.requires.2 c.records.invariant, omega (arith, c.requires.1, c.records.invariant.long))

pub returns : goal.returns
returns c =
    let l = length-records c.args.width c.args.section.now in
    indexed c.records.invariant (omega (arith, c.records-test.false)) (omega (arith, c.records-test.false, c.records.invariant.inside)) c.fill-2.ensures
