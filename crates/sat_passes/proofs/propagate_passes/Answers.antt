-- `sat_passes::propagate_passes` meets its contract. The loop's invariant: what was set so far are unit steps, and group 2 waits for the queue only; each pass
-- but the last sets a variable. Assumes nothing.
use Rattle.std.proofs.Common.{rules, ◌≡◌, refl, Err}
use native.Mathlib.Omega.{arith}
use Rattle.sat_passes.proofs.Passes as laws
use Rattle.sat_passes.proofs.propagate_passes.Goals as goal

-- ---- what is left

pub passes-init : goal.passes-init
passes-init c =
    (laws.settling _ _ c.requires.ready.0 c.requires.ready.1, c.requires.pair_table.1)

pub drain-requires : goal.drain-requires
drain-requires c =
    record { ready = (laws.drain_ready c.passes.invariant.0, c.passes.invariant.1); pair_table = (c.requires.pair_table.0, c.passes.invariant.0.queue) }

pub returns-in_err-at : goal.returns-in_err-at
returns-in_err-at c =
    let e : c.from_residual.result ≡ Err c.in_err-at.field-0.0 = search rules in
    let k = c.in_err-at.ensures in
    rw e (laws.drain_broken c.passes.invariant.0 k.0 refl, k.1)

pub scan_clauses-requires : goal.scan_clauses-requires
scan_clauses-requires c =
    record { list_value = (c.requires.list_value, λ h. absurd (omega (arith, h))); ready = laws.pass-ready c.passes.invariant.0 c.in_ok-at.ensures.0; pair_table = (c.requires.pair_table.0, c.drain.ensures.1) }

pub returns-in_err-s : goal.returns-in_err-s
returns-in_err-s c =
    let e : c.from_residual-in_err-s.result ≡ Err c.in_err-s.field-0.0 = search rules in
    let k = c.in_err-s.ensures in
    rw e (laws.propagate_passes_broken c.passes.invariant.0 c.in_ok-at.ensures.0 refl k.sifts.pass refl, k.rows)

pub returns-then-count-at : goal.returns-then-count-at
returns-then-count-at c =
    (laws.propagate_passes_rest c.passes.invariant.0 c.in_ok-at.ensures.0 refl c.in_ok-s.ensures.sifts.pass refl c.if-count-at.true, c.scan_clauses.ensures.rows)

pub passes-smaller : goal.passes-smaller
passes-smaller c =
    laws.propagate_passes_less c.passes.invariant.0 c.in_ok-at.ensures.0 refl c.in_ok-s.ensures.sifts.pass c.if-count-at.false

pub passes-preserved : goal.passes-preserved
passes-preserved c =
    (laws.propagate_passes_more c.passes.invariant.0 c.in_ok-at.ensures.0 refl c.in_ok-s.ensures.sifts.pass refl, c.scan_clauses.ensures.rows)
