-- `sat_scan::scan_clauses` meets its contract. Between clauses: what was set so far are unit steps, each clause passed is settled or has a variable that
-- was set, and it has a right literal or its place is put down. In a clause: what is seen of it is what is seen of the literals still to come, with the
-- unset literal met so far. Assumes nothing.
use native.Mathlib.Omega.{arith}
use mathlib.Core.Path.{◌≡◌, refl, sym, ap, ◌∙◌}
use mathlib.Core.Bool.{true≢false}
use lib.ListN.{length, get_or}
use Rattle.sat_trail.proofs.Working.{can_force}
use Rattle.sat_literal.proofs.Walking.{end_inside, clause_in}
use Rattle.sat_literal.proofs.Literals as asking
use Rattle.sat_scan.proofs.Passing.{pass-clause}
use Rattle.sat_scan.proofs.Scanning as laws
use Rattle.sat_scan.proofs.scan_clauses.Goals as goal
use Rattle.sat_scan.proofs.scan_clauses.Goals.{else-clauses-test, then-clauses-test+then-i-at-2+then-unset-eq0, then-i-at+else-is_true, then-is_unset, else-is_unset, else-i-at, then-kept-places, else-kept-places, then-is_unset-2+else-unset-eq1, else-is_unset-2}

-- ---- what is left

pub clauses-init : goal.clauses-init
clauses-init c =
    (laws.sifting c.requires.ready _ c.requires.list_value.0, refl, c.requires.pair_table.1, refl)

pub overflow_add-at : goal.overflow_add-at
overflow_add-at c =
    omega (arith, end_inside c.clauses.invariant.0.passing.before c.clauses-test.true, c.from.ensures, c.well_formed.0)

pub bounds-list-i : goal.bounds-list-i
bounds-list-i c =
    omega (arith, end_inside c.clauses.invariant.0.passing.before c.clauses-test.true, c.from.ensures, c.if-i-at.true)

pub is_true-requires : goal.is_true-requires
is_true-requires c =
    asking.next-below (pass-clause c.requires.ready c.clauses.invariant.0.passing c.clauses-test.true) (omega (arith, c.if-i-at.true, c.from.ensures))

pub clauses-preserved-then-is_true : goal.clauses-preserved-then-is_true
clauses-preserved-then-is_true c =
    let holds = asking.holds_by (pass-clause c.requires.ready c.clauses.invariant.0.passing c.clauses-test.true) (omega (arith, c.if-i-at.true, c.from.ensures)) (sym c.is_true.ensures ∙ c.if-is_true.true) in
    (rw c.from.ensures (laws.scan_clauses_holding c.requires.ready c.clauses.invariant.0 c.clauses-test.true holds), c.clauses.invariant.1, c.clauses.invariant.2, c.clauses.invariant.3)

pub is_unset-requires : goal.is_unset-requires
is_unset-requires c =
    asking.next-below (pass-clause c.requires.ready c.clauses.invariant.0.passing c.clauses-test.true) (omega (arith, c.if-i-at.true, c.from.ensures))

pub literals-init : goal.literals-init
literals-init c =
    let s = pass-clause c.requires.ready c.clauses.invariant.0.passing c.clauses-test.true in (
      rw c.from.ensures (elim c.if-i-at.branch [
        | then-i-at+else-is_true a ↦
            let more : get_or c.args.list.now c.clauses.at 0 ≡ 0 → ⊥ = omega (arith, a.if-i-at.true, c.from.ensures) in
            elim a.if-is_unset.branch [
              | then-is_unset b ↦ rw (a.i-is, a.unset-is, a.last-is, b.unset-is) (asking.step-unset s (omega (arith, more)) (omega arith) (sym a.is_unset.ensures ∙ b.if-is_unset.true))
              | else-is_unset b ↦ rw (a.i-is, a.unset-is, a.last-is, b.unset-is) (asking.last-any _ (asking.step_wrong s (omega (arith, more)) (sym a.is_true.ensures ∙ a.if-is_true.false) (sym a.is_unset.ensures ∙ b.if-is_unset.false)))
            ]
        | else-i-at a ↦ rw (a.i-is, a.unset-is, a.last-is) s
      ]),
      c.clauses.invariant.1,
      refl,
      refl,
    )

pub is_true-requires-in-literals : goal.is_true-requires-in-literals
is_true-requires-in-literals c = asking.next-below c.literals.invariant.0 c.if-i-at-2.false

pub clauses-preserved-then-is_true-2 : goal.clauses-preserved-then-is_true-2
clauses-preserved-then-is_true-2 c =
    let i = c.literals.invariant in
    let holds = asking.holds_by i.0 c.if-i-at-2.false (sym c.is_true-in-literals.ensures ∙ c.if-is_true-2.true) in
    (rw c.from.ensures (laws.scan_clauses_holding c.requires.ready (laws.scan_clauses_same c.clauses.invariant.0 i.2 i.3) c.clauses-test.true (rw c.from.ensures at holds)), i.1, c.clauses.invariant.2, ap length i.3 ∙ c.clauses.invariant.3)

pub is_unset-requires-in-literals : goal.is_unset-requires-in-literals
is_unset-requires-in-literals c =
    asking.next-below c.literals.invariant.0 c.if-i-at-2.false

pub overflow_cast-places : goal.overflow_cast-places
overflow_cast-places c =
    omega (arith, c.requires.list_value.1 (omega (arith, c.if-kept-places.true, ap length c.literals.invariant.3, c.clauses.invariant.3)), c.clauses-test.true)

pub overflow_add-kept : goal.overflow_add-kept
overflow_add-kept c =
    omega (arith, c.clauses.invariant.0.few, c.literals.invariant.2, c.clauses-test.true, c.well_formed.0)

pub clauses-preserved-then-unset-eq1 : goal.clauses-preserved-then-unset-eq1
clauses-preserved-then-unset-eq1 c =
    let i = c.literals.invariant in
    let sees = asking.sees_second i.0 c.if-i-at-2.false c.if-unset-eq1.true (sym c.is_unset-in-literals.ensures ∙ c.if-is_unset-2.true) in
    let long = ap length i.3 ∙ c.clauses.invariant.3 in
    elim c.if-kept-places.branch [
      | then-kept-places a ↦ let p = laws.scan_clauses_put c.requires.ready (laws.scan_clauses_same c.clauses.invariant.0 i.2 i.3) c.clauses-test.true (rw c.from.ensures at sees) a.places-is in (rw c.from.ensures p.0, i.1, c.clauses.invariant.2, p.1 ∙ long)
      | else-kept-places a ↦
          let p = laws.scan_clauses_kept c.requires.ready (laws.scan_clauses_same c.clauses.invariant.0 i.2 i.3) c.clauses-test.true (rw c.from.ensures at sees) (ap length a.places-is) (λ h. absurd (omega (arith, a.if-kept-places.false, h))) in
          (rw c.from.ensures p, i.1, c.clauses.invariant.2, ap length a.places-is ∙ long)
    ]

pub literals-preserved : goal.literals-preserved
literals-preserved c =
    let i = c.literals.invariant in
    let more = c.if-i-at-2.false in
    let u = c.is_unset-in-literals.ensures in (
      elim c.if-is_unset-2.branch [
        | then-is_unset-2+else-unset-eq1 a ↦ rw (a.unset-is, a.last-is) (asking.step-unset i.0 more a.if-unset-eq1.false (sym u ∙ a.if-is_unset-2.true))
        | else-is_unset-2 a ↦ rw (a.unset-is, a.last-is) (asking.step_wrong i.0 more (sym c.is_true-in-literals.ensures ∙ c.if-is_true-2.false) (sym u ∙ a.if-is_unset-2.false))
      ],
      i.1,
      i.2,
      i.3,
    )

pub force-count-requires : goal.force-count-requires
force-count-requires c =
    let i = c.clauses.invariant.0.passing in
    let sees = asking.sees_forcing c.literals.invariant.0 c.if-i-at-2.true c.if-unset-eq0.false in
    record { pair_table = c.requires.pair_table.0; settable = can_force c.requires.ready i.worked (clause_in i.before c.clauses-test.true) (rw c.from.ensures at sees) c.clauses.invariant.2 }

pub clauses-preserved : goal.clauses-preserved
clauses-preserved c =
    let i = c.literals.invariant in
    let sees = asking.sees_forcing i.0 c.if-i-at-2.true c.if-unset-eq0.false in
    let f = c.force-count.ensures in
    (rw c.from.ensures (laws.scan_clauses_forced c.requires.ready (laws.scan_clauses_same c.clauses.invariant.0 i.2 i.3) c.clauses-test.true (rw c.from.ensures at sees) f), i.1, f.assigned.rows, ap length i.3 ∙ c.clauses.invariant.3)

pub returns-then-broken-clause-sifts : goal.returns-then-broken-clause-sifts
returns-then-broken-clause-sifts c = elim c.clauses-test.branch [
  | else-clauses-test w ↦ absurd (true≢false (sym c.if-broken.true ∙ w.broken-is ∙ c.clauses.invariant.1))
  | then-clauses-test+then-i-at-2+then-unset-eq0 w ↦
      let i = w.literals.invariant in
      let sees = asking.sees_broken i.0 w.if-i-at-2.true w.if-unset-eq0.true in
      rw w.places-is (laws.scan_clauses_broken c.requires.ready (laws.scan_clauses_same c.clauses.invariant.0 i.2 i.3) w.clauses-test.true (rw w.from.ensures at sees))
]

pub returns-clause-sifts : goal.returns-clause-sifts
returns-clause-sifts c = elim c.clauses-test.branch [
  | else-clauses-test w ↦ rw (w.places-is, w.kept-is) (laws.scan_clauses_end c.requires.ready c.clauses.invariant.0 w.clauses-test.false)
  | then-clauses-test+then-i-at-2+then-unset-eq0 w ↦ absurd (true≢false (sym w.broken-is ∙ c.if-broken.false))
]
