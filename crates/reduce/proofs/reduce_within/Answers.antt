-- `reduce::reduce_within` meets its contract: reading, then the map buffer, then the rest; and what is promised of a delivery. Assumes nothing.
use mathlib.Core.Path.{◌≡◌, ap, sym, subst, ◌∙◌}
use mathlib.Core.List.{List}
use Prim.Native.Nat.{ℕ}
use lib.ListN.{length}
use native.Mathlib.Omega.{arith}
use Rattle.std.specs.Borrow.{Bor}
use Rattle.refusals.proofs.Numbers.{passed_up}
use Rattle.table_spec.specs.File.{table_of}
use Rattle.table_spec.specs.Language.{count}
use Rattle.check_map.specs.Known.{WhereReadable}
use Rattle.check_map.proofs.Checking.{known_at}
use Rattle.reduce_spec.specs.Reduce.{Reduced, reduce_of}
use Rattle.reduce_spec.proofs.Theorems.{promised}
use Rattle.reduce.proofs.Stages as laws
use Rattle.reduce.proofs.reduce_within.Goals as goal

pub returns-in_err-examined : goal.returns-in_err-examined
returns-in_err-examined c =
    let L = c.args.limits in
    let the_facts = let b = c.args.table.now in
    promised L b c.args.budget c.args.list.now c.args.map.now c.args.out.now
    (laws.not-read L b c.args.budget c.args.list.now c.args.map.now c.args.out.now _ (passed_up c.from_residual.ensures) c.in_err-examined.ensures.err) in
    record { answers = the_facts.0; number = the_facts.1.0; promises = the_facts.1.1 }

pub returns-then-map-n : goal.returns-then-map-n
returns-then-map-n c =
    let L = c.args.limits in
    let ok = c.in_ok-examined.ensures.ok in
    let the_facts = let b = c.args.table.now in
    let known = known_at c.in_ok-examined.examined ok.0 in
    promised L b c.args.budget c.args.list.now c.args.map.now c.args.out.now
    (laws.map-short L b c.args.budget c.args.list.now c.args.map.now c.args.out.now ok.1 (omega (arith, laws.states-count known.read c.part-states.ensures, c.if-map-n.true))) in
    record { answers = the_facts.0; number = the_facts.1.0; promises = the_facts.1.1 }

pub overflow_cast-n : goal.overflow_cast-n
overflow_cast-n c =
    let ok = c.in_ok-examined.ensures.ok in
    let known = known_at c.in_ok-examined.examined ok.0 in
    omega (arith, laws.states-count known.read c.part-states.ensures, laws.states-few c.args.limits c.args.table.now ok.1)

pub reduce_known-requires : goal.reduce_known-requires
reduce_known-requires c =
    let ok = c.in_ok-examined.ensures.ok in
    let known = known_at c.in_ok-examined.examined ok.0 in
    let same : count (table_of c.in_ok-examined.examined.bytes.now) ≡ count (table_of c.args.table.now) = ap (λ (t : Bor (List ℕ)). count (table_of t.now)) ok.0 in
    (laws.states-count known.read c.part-states.ensures ∙ sym same, c.if-map-n.false)

pub returns : goal.returns
returns c =
    let L = c.args.limits in
    let ok = c.in_ok-examined.ensures.ok in
    let reduced = subst (λ (t : Bor (List ℕ)). WhereReadable t.now (λ L. ◌≡◌ {A = Reduced} (record { answer = c.reduce_known.result; list = c.reduce_known.new.list; map = c.reduce_known.new.map; out = c.reduce_known.new.out }) (reduce_of L t.now c.args.budget c.args.list.now c.args.map.now c.args.out.now))) ok.0 c.reduce_known.ensures in
    let the_facts = promised L c.args.table.now c.args.budget c.args.list.now c.args.map.now c.args.out.now (reduced L ok.1) in
    record { answers = the_facts.0; number = the_facts.1.0; promises = the_facts.1.1 }
