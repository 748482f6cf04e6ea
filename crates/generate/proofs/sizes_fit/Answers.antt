-- `generate::sizes_fit` meets its contract: each test is one of the four. Assumes nothing.
use Rattle.std.proofs.Common.{◌+◌, arith}
use Rattle.generate_spec.proofs.Bytes.{no_states, many_states, many_symbols, by_density}
use Rattle.generate.proofs.sizes_fit.Goals as goal

pub returns-then-states-lt1 : goal.returns-then-states-lt1
returns-then-states-lt1 c = no_states c.args.limits c.args.states (c.args.internals + (c.args.calls + c.args.returns)) c.args.density c.if-states-lt1.true

pub returns-then-limits-states : goal.returns-then-limits-states
returns-then-limits-states c = many_states c.args.limits c.args.states (c.args.internals + (c.args.calls + c.args.returns)) c.args.density c.if-states-lt1.false c.if-limits-states.true

pub returns-then-limits-internals : goal.returns-then-limits-internals
returns-then-limits-internals c =
    many_symbols c.args.limits c.args.states (c.args.internals + (c.args.calls + c.args.returns)) c.args.density c.if-states-lt1.false c.if-limits-states.false (omega (arith, c.if-limits-internals.true))

pub returns-then-limits-internals-2 : goal.returns-then-limits-internals-2
returns-then-limits-internals-2 c =
    many_symbols c.args.limits c.args.states (c.args.internals + (c.args.calls + c.args.returns)) c.args.density c.if-states-lt1.false c.if-limits-states.false (omega (arith, c.if-limits-internals-2.true))

pub returns-then-limits-internals-3 : goal.returns-then-limits-internals-3
returns-then-limits-internals-3 c =
    many_symbols c.args.limits c.args.states (c.args.internals + (c.args.calls + c.args.returns)) c.args.density c.if-states-lt1.false c.if-limits-states.false (omega (arith, c.if-limits-internals-2.false, c.if-limits-internals-3.true))

pub returns : goal.returns
returns c =
    by_density c.args.limits c.args.states (c.args.internals + (c.args.calls + c.args.returns)) c.args.density c.if-states-lt1.false c.if-limits-states.false (omega (arith, c.if-limits-internals.false, c.if-limits-internals-2.false, c.if-limits-internals-3.false))
