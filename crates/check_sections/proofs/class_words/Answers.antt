-- `check_sections::class_words` meets its contract: the states before this one are in the words of their classes. Assumes nothing.
use Rattle.check_sections.proofs.Words.{classing, class_on, all_classed}
use Prim.Native.Nat.{◌-◌}
use native.Mathlib.Omega.{arith}
use Rattle.check_sections.proofs.class_words.Goals as goal

pub states-init : goal.states-init
states-init c = classing _

pub states-preserved : goal.states-preserved
states-preserved c =
    class_on c.states.invariant c.states-test.true c.from.ensures (omega (arith, c.from.ensures, c.type_inv.map c.states.q)) c.bit.ensures

pub returns : goal.returns
returns c =
    all_classed c.states.invariant c.states-test.false
