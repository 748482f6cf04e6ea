-- `quotient::quotient_within` meets its contract: refused by reading, or as a table that was read. Assumes nothing.
use mathlib.Core.Path.{◌≡◌, subst}
use mathlib.Core.List.{List}
use Prim.Native.Nat.{ℕ}
use Rattle.std.specs.Borrow.{Bor}
use Rattle.refusals.proofs.Numbers.{passed_up}
use Rattle.check_map.specs.Known.{WhereReadable}
use Rattle.check_map.proofs.Checking.{unread}
use Rattle.quotient_spec.specs.Quotient.{quotient_of}
use Rattle.quotient_spec.proofs.Theorems.{promised}
use Rattle.quotient.proofs.Quotienting.{quotient_refused}
use Rattle.quotient.proofs.quotient_within.Goals as goal

pub returns-in_err-examined : goal.returns-in_err-examined
returns-in_err-examined c =
    let the_facts = promised _ _ _ _ (quotient_refused _ _ _ _ (passed_up c.from_residual.ensures) (unread _ _ _ _ c.in_err-examined.ensures.err)) in
    record { answers = the_facts.0; number = the_facts.1.0; promises = the_facts.1.1 }

pub returns : goal.returns
returns c =
    let ok = c.in_ok-examined.ensures.ok in
    let told = subst (λ (t : Bor (List ℕ)). WhereReadable t.now (λ L. record { answer = c.quotient_known.result; out = c.quotient_known.new.out } ≡ quotient_of L t.now c.args.map.now c.args.out.now)) ok.0 c.quotient_known.ensures in
    let the_facts = promised _ _ _ _ (told _ ok.1) in
    record { answers = the_facts.0; number = the_facts.1.0; promises = the_facts.1.1 }
