-- `clauses::all_groups` meets its contract: the parts handed on are the file's sections. Assumes nothing.
use mathlib.Core.Path.{ap, ◌∙◌}
use mathlib.Core.List.{List}
use Prim.Native.Nat.{ℕ}
use native.Mathlib.Omega.{arith}
use Rattle.table_index.proofs.Parts.{parts-lent}
use Rattle.check_map.proofs.Checking.{known_of}
use Rattle.clauses_emit.specs.Emit.{state, emit}
use Rattle.clauses.proofs.Whole.{groups, parts-listed}
use Rattle.clauses.proofs.all_groups.Goals as goal

pub labels_apart-first-requires : goal.labels_apart-first-requires
labels_apart-first-requires c =
    (parts-lent c.args.examined.now.bytes.now (known_of c.args.examined.now).read c.part-states.ensures c.part-internals.ensures c.part-calls.ensures c.part-returns.ensures).few

pub overflow_cast-count : goal.overflow_cast-count
overflow_cast-count c =
    let lent = parts-lent c.args.examined.now.bytes.now (known_of c.args.examined.now).read c.part-states.ensures c.part-internals.ensures c.part-calls.ensures c.part-returns.ensures in
    record { fits = omega (arith, lent.few) }

pub closure-second-requires : goal.closure-second-requires
closure-second-requires c =
    (parts-lent c.args.examined.now.bytes.now (known_of c.args.examined.now).read c.part-states.ensures c.part-internals.ensures c.part-calls.ensures c.part-returns.ensures).few

pub moves-third-requires : goal.moves-third-requires
moves-third-requires c =
    let lent = parts-lent c.args.examined.now.bytes.now (known_of c.args.examined.now).read c.part-states.ensures c.part-internals.ensures c.part-calls.ensures c.part-returns.ensures in
    (lent.internals-lent, omega (arith, lent.few))

pub moves-fourth-requires : goal.moves-fourth-requires
moves-fourth-requires c =
    let lent = parts-lent c.args.examined.now.bytes.now (known_of c.args.examined.now).read c.part-states.ensures c.part-internals.ensures c.part-calls.ensures c.part-returns.ensures in
    (lent.calls-lent, omega (arith, lent.few))

pub live_returns-requires : goal.live_returns-requires
live_returns-requires c =
    let lent = parts-lent c.args.examined.now.bytes.now (known_of c.args.examined.now).read c.part-states.ensures c.part-internals.ensures c.part-calls.ensures c.part-returns.ensures in
    (lent.returns-lent, lent.few)

pub returns : goal.returns
returns c =
    groups _ c.part-states.result.now c.part-internals.result.now c.part-calls.result.now c.part-returns.result.now c.args.examined.now.words _ c.labels_apart-first.ensures c.closure-second.ensures c.moves-third.ensures c.moves-fourth.ensures c.live_returns.ensures
    ∙ ap (λ (cs : List (List ℕ)). emit cs (state c.args.tally c.args.list.now))
    (parts-listed (known_of c.args.examined.now) c.part-states.ensures c.part-internals.ensures c.part-calls.ensures c.part-returns.ensures c.args.whole)
