-- `tops::fixpoint` meets its contract. The invariant: so many rounds from the words as they are give the words to come out, and their sum. Assumes nothing.
use Prim.Native.Nat.{suc, ◌-◌, ◌*◌}
use lib.ListN.{length}
use Rattle.tops_spec.specs.Tops.{rounds}
use Rattle.tops.specs.Steps.{table_in}
use Rattle.tops.proofs.Sums.{SumKnown}
use Rattle.tops.proofs.fixpoint.Given as goal

abbrev pub invariant-rounds : goal.invariant-rounds
invariant-rounds l =
    SumKnown (table_in l.sections) (rounds (suc (length l.sections.states.now * suc (length l.sections.states.now))) (table_in l.sections) l.initial.words) l.words (l.round-end - l.round) l.sum
