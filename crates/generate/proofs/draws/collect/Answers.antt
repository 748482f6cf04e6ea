-- `generate::draws::collect` meets its contract: what is present of the records from here on is still to be collected. Assumes nothing.
use Rattle.std.proofs.Common.{arith}
use Rattle.generate.proofs.Places.{Sizes, sizes_of, plain_shape}
use Rattle.generate.proofs.Drawing.{collecting, passed_over, taken, over-full, all_drawn}
use Rattle.generate.proofs.draws.collect.Goals as goal

pub tails_of-requires : goal.tails_of-requires
tails_of-requires c = plain_shape c.requires

pub overflow_mul-all : goal.overflow_mul-all
overflow_mul-all c =
    let sizes : Sizes c.args.width c.args.states c.args.from c.args.symbols c.tails_of.result = sizes_of c.requires c.tails_of.ensures in
    omega (arith, sizes)

pub overflow_mul-all-2 : goal.overflow_mul-all-2
overflow_mul-all-2 c =
    let sizes : Sizes c.args.width c.args.states c.args.from c.args.symbols c.tails_of.result = sizes_of c.requires c.tails_of.ensures in
    omega (arith, sizes)

pub records-init : goal.records-init
records-init c = collecting _ _ _ _

pub records-preserved-then-density-s : goal.records-preserved-then-density-s
records-preserved-then-density-s c =
    let sizes : Sizes c.args.width c.args.states c.args.from c.args.symbols c.tails_of.result = sizes_of c.requires c.tails_of.ensures in
    passed_over c.records.invariant (omega (arith, c.records-test.true, sizes.all)) c.step-s.ensures c.if-density-s.true

pub returns-then-count-keys : goal.returns-then-count-keys
returns-then-count-keys c =
    let sizes : Sizes c.args.width c.args.states c.args.from c.args.symbols c.tails_of.result = sizes_of c.requires c.tails_of.ensures in
    over-full c.records.invariant (omega (arith, c.records-test.true, sizes.all)) c.step-s.ensures (omega (arith, c.if-density-s.false)) c.if-count-keys.true

pub key_at-requires : goal.key_at-requires
key_at-requires c =
    let sizes : Sizes c.args.width c.args.states c.args.from c.args.symbols c.tails_of.result = sizes_of c.requires c.tails_of.ensures in
    (c.requires, omega (arith, c.records-test.true, sizes.all))

pub bounds-keys-count : goal.bounds-keys-count
bounds-keys-count c = omega (arith, c.records.invariant.few, c.if-count-keys.false)

pub records-preserved : goal.records-preserved
records-preserved c =
    let sizes : Sizes c.args.width c.args.states c.args.from c.args.symbols c.tails_of.result = sizes_of c.requires c.tails_of.ensures in
    taken c.records.invariant (omega (arith, c.records-test.true, sizes.all)) c.step-s.ensures (omega (arith, c.if-density-s.false)) (omega (arith, c.records.invariant.few, c.if-count-keys.false)) c.key_at.ensures

pub shape_of-keys : goal.shape_of-keys
shape_of-keys c = c.records.invariant.same-room

pub returns : goal.returns
returns c =
    let sizes : Sizes c.args.width c.args.states c.args.from c.args.symbols c.tails_of.result = sizes_of c.requires c.tails_of.ensures in
    all_drawn c.records.invariant (omega (arith, c.records-test.false, sizes.all))
