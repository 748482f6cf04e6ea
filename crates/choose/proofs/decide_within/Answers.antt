-- `choose::decide_within` meets its contract: refused by reading, by 40, or decided. Assumes nothing.
use mathlib.Core.Path.{◌≡◌, sym, subst, ◌∙◌}
use mathlib.Core.List.{List}
use Prim.Native.Nat.{ℕ}
use Rattle.std.specs.Borrow.{Bor}
use Rattle.refusals.proofs.Numbers.{passed_up}
use Rattle.check_map.specs.Known.{WhereReadable}
use Rattle.choose_spec.specs.Choose.{which_of}
use Rattle.choose_spec.proofs.Choosing.{told, decided_says, decide_neither, decide_some}
use Rattle.choose.proofs.Unread.{decide_unread}
use Rattle.choose.proofs.decide_within.Goals as goal

pub returns-in_err-examined : goal.returns-in_err-examined
returns-in_err-examined c =
    let e = (passed_up c.from_residual.ensures ∙ decide_unread _ _ _ _ _ c.in_err-examined.ensures.err) in
    let the_facts = told _ _ _ _ e in
    record { answers = the_facts.0; tells = the_facts.1; number = decided_says _ _ _ _ e }

pub returns-in-Some : goal.returns-in-Some
returns-in-Some c =
    let ok = c.in_ok-examined.ensures.ok in
    let which = subst (λ (t : Bor (List ℕ)). WhereReadable t.now (λ L. c.which_known-which.result ≡ which_of L t.now c.args.first.now c.args.second.now)) ok.0 c.which_known-which.ensures in
    let e = (decide_some _ _ _ _ (sym c.in-Some.is ∙ which _ ok.1)) in
    let the_facts = told _ _ _ _ e in
    record { answers = the_facts.0; tells = the_facts.1; number = decided_says _ _ _ _ e }

pub returns-in-None : goal.returns-in-None
returns-in-None c =
    let ok = c.in_ok-examined.ensures.ok in
    let which = subst (λ (t : Bor (List ℕ)). WhereReadable t.now (λ L. c.which_known-which.result ≡ which_of L t.now c.args.first.now c.args.second.now)) ok.0 c.which_known-which.ensures in
    let e = (decide_neither _ _ _ _ ok.1 (sym c.in-None.is ∙ which _ ok.1)) in
    let the_facts = told _ _ _ _ e in
    record { answers = the_facts.0; tells = the_facts.1; number = decided_says _ _ _ _ e }
