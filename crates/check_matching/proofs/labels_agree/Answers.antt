-- `check_matching::labels_agree` meets its contract: the states before this one agree with the first of their class. Assumes nothing.
use mathlib.Core.Path.{◌≡◌, refl, sym, ap, ◌∙◌, subst}
use mathlib.Core.List.{List}
use Prim.Native.Nat.{ℕ, ◌+◌}
use native.Mathlib.Omega.{arith}
use lib.ListN.{get_or}
use Rattle.std.proofs.Common.{Option, Some, None}
use Rattle.table_spec.specs.Language.{agreed_on}
use Rattle.check_matching.proofs.Looks.{Looking, looking, look_on, look_first, looks_differ, looks_alike}
use Rattle.check_matching.proofs.labels_agree.Goals as goal
use Rattle.check_matching.proofs.labels_agree.Goals.{in-None, in-Some+else-held-look}

pub states-init : goal.states-init
states-init c = looking _ _

pub returns-then-held-look : goal.returns-then-held-look
unfolding agreed_on
returns-then-held-look c =
    let e = c.from-class.ensures ∙ c.class_of.ensures in
    looks_differ c.states.invariant c.states-test.true (ap (λ (i : ℕ). get_or c.states.looks i None) (sym e) ∙ c.in-Some.is) c.if-held-look.true

pub states-preserved : goal.states-preserved
unfolding agreed_on
states-preserved c =
    let s = c.args.states.now in
    let m = c.args.map.now in
    let e = c.from-class.ensures ∙ c.class_of.ensures in
    elim c.match-looks-class.branch [
      | in-None w ↦ subst (λ (l : List (Option ℕ)). Looking s m l (c.states.q + 1)) (sym w.looks-is) (look_first c.states.invariant e (omega arith) w.in-None.is refl)
      | in-Some+else-held-look w ↦ subst (λ (l : List (Option ℕ)). Looking s m l (c.states.q + 1)) (sym w.looks-is) (look_on c.states.invariant (ap (λ (i : ℕ). get_or c.states.looks i None) (sym e) ∙ w.in-Some.is ∙ ap (λ (x : ℕ). Some x) w.if-held-look.false))
    ]

pub returns : goal.returns
returns c = looks_alike c.states.invariant c.states-test.false
