-- `generate::draws::key_at` meets its contract: the divisions find the record's bytes. Assumes nothing.
use Rattle.std.proofs.Common.{◌*◌, ◌%◌, arith}
use Rattle.generate.proofs.Places.{Sizes, sizes_of, plain_shape, Parts, parts_of, key_of_move, key_of_return, width_four, Last, last_of}
use Rattle.generate.proofs.draws.key_at.Goals as goal

pub tails_of-tails-requires : goal.tails_of-tails-requires
tails_of-tails-requires c = plain_shape c.requires.0

pub overflow_mul-state : goal.overflow_mul-state
overflow_mul-state c =
    let sizes : Sizes c.args.width c.args.states c.args.from c.args.symbols c.tails_of-tails.result = sizes_of c.requires.0 c.tails_of-tails.ensures in
    let parts : Parts c.args.states c.args.symbols c.tails_of-tails.result c.args.at = parts_of c.args.at sizes c.requires.1 in
    omega (arith, sizes, parts.outer, parts.inner, c.requires.0)

pub nonzero_div-state : goal.nonzero_div-state
nonzero_div-state c =
    let sizes : Sizes c.args.width c.args.states c.args.from c.args.symbols c.tails_of-tails.result = sizes_of c.requires.0 c.tails_of-tails.ensures in
    let parts : Parts c.args.states c.args.symbols c.tails_of-tails.result c.args.at = parts_of c.args.at sizes c.requires.1 in
    omega (arith, sizes, parts.outer, parts.inner, c.requires.0)

pub overflow_mul-rest : goal.overflow_mul-rest
overflow_mul-rest c =
    let sizes : Sizes c.args.width c.args.states c.args.from c.args.symbols c.tails_of-tails.result = sizes_of c.requires.0 c.tails_of-tails.ensures in
    let parts : Parts c.args.states c.args.symbols c.tails_of-tails.result c.args.at = parts_of c.args.at sizes c.requires.1 in
    omega (arith, sizes, parts.outer, parts.inner, c.requires.0)

pub nonzero_rem-rest : goal.nonzero_rem-rest
nonzero_rem-rest c =
    let sizes : Sizes c.args.width c.args.states c.args.from c.args.symbols c.tails_of-tails.result = sizes_of c.requires.0 c.tails_of-tails.ensures in
    let parts : Parts c.args.states c.args.symbols c.tails_of-tails.result c.args.at = parts_of c.args.at sizes c.requires.1 in
    omega (arith, sizes, parts.outer, parts.inner, c.requires.0)

pub nonzero_div-symbol : goal.nonzero_div-symbol
nonzero_div-symbol c =
    let sizes : Sizes c.args.width c.args.states c.args.from c.args.symbols c.tails_of-tails.result = sizes_of c.requires.0 c.tails_of-tails.ensures in
    let parts : Parts c.args.states c.args.symbols c.tails_of-tails.result c.args.at = parts_of c.args.at sizes c.requires.1 in
    omega (arith, sizes, parts.outer, parts.inner, c.requires.0)

pub overflow_add-symbol : goal.overflow_add-symbol
overflow_add-symbol c =
    let sizes : Sizes c.args.width c.args.states c.args.from c.args.symbols c.tails_of-tails.result = sizes_of c.requires.0 c.tails_of-tails.ensures in
    let parts : Parts c.args.states c.args.symbols c.tails_of-tails.result c.args.at = parts_of c.args.at sizes c.requires.1 in
    omega (arith, sizes, parts.outer, parts.inner, c.requires.0)

pub nonzero_rem-tail : goal.nonzero_rem-tail
nonzero_rem-tail c =
    let sizes : Sizes c.args.width c.args.states c.args.from c.args.symbols c.tails_of-tails.result = sizes_of c.requires.0 c.tails_of-tails.ensures in
    let parts : Parts c.args.states c.args.symbols c.tails_of-tails.result c.args.at = parts_of c.args.at sizes c.requires.1 in
    omega (arith, sizes, parts.outer, parts.inner, c.requires.0)

pub overflow_mul-both : goal.overflow_mul-both
overflow_mul-both c =
    let sizes : Sizes c.args.width c.args.states c.args.from c.args.symbols c.tails_of-tails.result = sizes_of c.requires.0 c.tails_of-tails.ensures in
    let parts : Parts c.args.states c.args.symbols c.tails_of-tails.result c.args.at = parts_of c.args.at sizes c.requires.1 in
    omega (arith, sizes, parts.outer, parts.inner, c.requires.0)

pub overflow_add-both : goal.overflow_add-both
overflow_add-both c =
    let sizes : Sizes c.args.width c.args.states c.args.from c.args.symbols c.tails_of-tails.result = sizes_of c.requires.0 c.tails_of-tails.ensures in
    let parts : Parts c.args.states c.args.symbols c.tails_of-tails.result c.args.at = parts_of c.args.at sizes c.requires.1 in
    omega (arith, sizes, parts.outer, parts.inner, c.requires.0)

pub overflow_mul-result : goal.overflow_mul-result
overflow_mul-result c =
    let sizes : Sizes c.args.width c.args.states c.args.from c.args.symbols c.tails_of-tails.result = sizes_of c.requires.0 c.tails_of-tails.ensures in
    let parts : Parts c.args.states c.args.symbols c.tails_of-tails.result c.args.at = parts_of c.args.at sizes c.requires.1 in
    omega (arith, sizes, parts.outer, parts.inner, c.requires.0)

pub overflow_add-result : goal.overflow_add-result
overflow_add-result c =
    let sizes : Sizes c.args.width c.args.states c.args.from c.args.symbols c.tails_of-tails.result = sizes_of c.requires.0 c.tails_of-tails.ensures in
    let parts : Parts c.args.states c.args.symbols c.tails_of-tails.result c.args.at = parts_of c.args.at sizes c.requires.1 in
    omega (arith, sizes, parts.outer, parts.inner, c.requires.0)

pub overflow_cast-result : goal.overflow_cast-result
overflow_cast-result c =
    let sizes : Sizes c.args.width c.args.states c.args.from c.args.symbols c.tails_of-tails.result = sizes_of c.requires.0 c.tails_of-tails.ensures in
    let parts : Parts c.args.states c.args.symbols c.tails_of-tails.result c.args.at = parts_of c.args.at sizes c.requires.1 in
    omega (arith, sizes, parts.outer, parts.inner, c.requires.0)

pub returns-then-width-eq3 : goal.returns-then-width-eq3
returns-then-width-eq3 c =
    let sizes : Sizes c.args.width c.args.states c.args.from c.args.symbols c.tails_of-tails.result = sizes_of c.requires.0 c.tails_of-tails.ensures in
    let parts : Parts c.args.states c.args.symbols c.tails_of-tails.result c.args.at = parts_of c.args.at sizes c.requires.1 in
    key_of_move c.args.from c.tails_of-tails.ensures parts c.if-width-eq3.true

pub overflow_mul-result-2 : goal.overflow_mul-result-2
overflow_mul-result-2 c =
    let sizes : Sizes c.args.width c.args.states c.args.from c.args.symbols c.tails_of-tails.result = sizes_of c.requires.0 c.tails_of-tails.ensures in
    let parts : Parts c.args.states c.args.symbols c.tails_of-tails.result c.args.at = parts_of c.args.at sizes c.requires.1 in
    let last : Last c.args.states c.tails_of-tails.result (c.args.at % (c.args.symbols * c.tails_of-tails.result) % c.tails_of-tails.result) = last_of c.tails_of-tails.ensures (width_four c.requires.0 c.if-width-eq3.false) parts in
    omega (arith, sizes, parts.outer, parts.inner, c.requires.0, last)

pub nonzero_div-result : goal.nonzero_div-result
nonzero_div-result c =
    let sizes : Sizes c.args.width c.args.states c.args.from c.args.symbols c.tails_of-tails.result = sizes_of c.requires.0 c.tails_of-tails.ensures in
    let parts : Parts c.args.states c.args.symbols c.tails_of-tails.result c.args.at = parts_of c.args.at sizes c.requires.1 in
    let last : Last c.args.states c.tails_of-tails.result (c.args.at % (c.args.symbols * c.tails_of-tails.result) % c.tails_of-tails.result) = last_of c.tails_of-tails.ensures (width_four c.requires.0 c.if-width-eq3.false) parts in
    omega (arith, sizes, parts.outer, parts.inner, c.requires.0, last)

pub overflow_add-result-2 : goal.overflow_add-result-2
overflow_add-result-2 c =
    let sizes : Sizes c.args.width c.args.states c.args.from c.args.symbols c.tails_of-tails.result = sizes_of c.requires.0 c.tails_of-tails.ensures in
    let parts : Parts c.args.states c.args.symbols c.tails_of-tails.result c.args.at = parts_of c.args.at sizes c.requires.1 in
    let last : Last c.args.states c.tails_of-tails.result (c.args.at % (c.args.symbols * c.tails_of-tails.result) % c.tails_of-tails.result) = last_of c.tails_of-tails.ensures (width_four c.requires.0 c.if-width-eq3.false) parts in
    omega (arith, sizes, parts.outer, parts.inner, c.requires.0, last)

pub overflow_mul-result-3 : goal.overflow_mul-result-3
overflow_mul-result-3 c =
    let sizes : Sizes c.args.width c.args.states c.args.from c.args.symbols c.tails_of-tails.result = sizes_of c.requires.0 c.tails_of-tails.ensures in
    let parts : Parts c.args.states c.args.symbols c.tails_of-tails.result c.args.at = parts_of c.args.at sizes c.requires.1 in
    let last : Last c.args.states c.tails_of-tails.result (c.args.at % (c.args.symbols * c.tails_of-tails.result) % c.tails_of-tails.result) = last_of c.tails_of-tails.ensures (width_four c.requires.0 c.if-width-eq3.false) parts in
    omega (arith, sizes, parts.outer, parts.inner, c.requires.0, last)

pub nonzero_rem-result : goal.nonzero_rem-result
nonzero_rem-result c =
    let sizes : Sizes c.args.width c.args.states c.args.from c.args.symbols c.tails_of-tails.result = sizes_of c.requires.0 c.tails_of-tails.ensures in
    let parts : Parts c.args.states c.args.symbols c.tails_of-tails.result c.args.at = parts_of c.args.at sizes c.requires.1 in
    let last : Last c.args.states c.tails_of-tails.result (c.args.at % (c.args.symbols * c.tails_of-tails.result) % c.tails_of-tails.result) = last_of c.tails_of-tails.ensures (width_four c.requires.0 c.if-width-eq3.false) parts in
    omega (arith, sizes, parts.outer, parts.inner, c.requires.0, last)

pub overflow_add-result-3 : goal.overflow_add-result-3
overflow_add-result-3 c =
    let sizes : Sizes c.args.width c.args.states c.args.from c.args.symbols c.tails_of-tails.result = sizes_of c.requires.0 c.tails_of-tails.ensures in
    let parts : Parts c.args.states c.args.symbols c.tails_of-tails.result c.args.at = parts_of c.args.at sizes c.requires.1 in
    let last : Last c.args.states c.tails_of-tails.result (c.args.at % (c.args.symbols * c.tails_of-tails.result) % c.tails_of-tails.result) = last_of c.tails_of-tails.ensures (width_four c.requires.0 c.if-width-eq3.false) parts in
    omega (arith, sizes, parts.outer, parts.inner, c.requires.0, last)

pub overflow_cast-result-2 : goal.overflow_cast-result-2
overflow_cast-result-2 c =
    let sizes : Sizes c.args.width c.args.states c.args.from c.args.symbols c.tails_of-tails.result = sizes_of c.requires.0 c.tails_of-tails.ensures in
    let parts : Parts c.args.states c.args.symbols c.tails_of-tails.result c.args.at = parts_of c.args.at sizes c.requires.1 in
    let last : Last c.args.states c.tails_of-tails.result (c.args.at % (c.args.symbols * c.tails_of-tails.result) % c.tails_of-tails.result) = last_of c.tails_of-tails.ensures (width_four c.requires.0 c.if-width-eq3.false) parts in
    omega (arith, sizes, parts.outer, parts.inner, c.requires.0, last)

pub returns : goal.returns
returns c =
    let sizes : Sizes c.args.width c.args.states c.args.from c.args.symbols c.tails_of-tails.result = sizes_of c.requires.0 c.tails_of-tails.ensures in
    let parts : Parts c.args.states c.args.symbols c.tails_of-tails.result c.args.at = parts_of c.args.at sizes c.requires.1 in
    key_of_return c.args.from c.tails_of-tails.ensures parts (width_four c.requires.0 c.if-width-eq3.false)
