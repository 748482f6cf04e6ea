-- The tops of a well-formed table: its words tell which states are reachable tops of which. Assumes nothing.
use mathlib.Core.Path.{◌≡◌}
use mathlib.Core.Logic.{◌↔◌}
use mathlib.Core.Bool.{true}
use mathlib.Core.Option.{some}
use Prim.Native.Nat.{ℕ, ◌<◌}
use native.Mathlib.Omega.{arith}
use Rattle.lists.specs.Bits.{has}
use Rattle.vpa.specs.Automata.{Tops}
use Rattle.limits.specs.declared.Limits.{Limits}
use Rattle.limits.specs.Limits.{state_most}
use Rattle.table_spec.specs.File.{Table}
use Rattle.table_spec.specs.Reading.{WellFormed}
use Rattle.table_spec.specs.Language.{count, automaton}
use Rattle.table_spec.proofs.Facts.{internals-fit, calls-fit, returns-fit, most-states}
use Rattle.tops_spec.specs.Tops.{top_words}
use Rattle.tops_spec.proofs.Bounded.{Bounded}
use Rattle.tops_spec.proofs.Exact.{top-state-has, tops?}

module _ {L : Limits} {t : Table} (wf : WellFormed L t) where
  pub bounded : Bounded state_most t
  bounded = record {
    states = most-states wf;
    internals = λ r m. record { wide = (internals-fit wf).wide r m; from = (internals-fit wf).states r m 0 (omega arith) (omega arith); to = (internals-fit wf).states r m 2 (omega arith) (omega arith) };
    calls = λ r m. record { wide = (calls-fit wf).wide r m; from = (calls-fit wf).states r m 0 (omega arith) (omega arith); to = (calls-fit wf).states r m 2 (omega arith) (omega arith) };
    returns = λ r m. record {
      wide = (returns-fit wf).wide r m;
      from = (returns-fit wf).states r m 0 (omega arith) (omega arith);
      under = (returns-fit wf).states r m 2 (omega arith) (omega arith);
      to = (returns-fit wf).states r m 3 (omega arith) (omega arith);
    };
  }

  -- the test and the relation
  pub told : (q s : ℕ) → s < count t → (has (top_words t) q s ≡ true) ↔ Tops (automaton t) q (some s)
  told q s l = top-state-has bounded q (omega (arith, most-states wf))

  pub reachable? : (q s : ℕ) → Dec (Tops (automaton t) q (some s))
  reachable? q s = tops? bounded q (some s)
