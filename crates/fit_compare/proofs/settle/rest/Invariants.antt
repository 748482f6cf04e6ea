-- `fit_compare::settle::rest` meets its contract. The invariant: so many rounds from the words that are held give the words to come out. Assumes nothing.
use Prim.Native.Nat.{◌-◌}
use Rattle.fit_compare.proofs.Settling.{Resting}
use Rattle.fit_compare.proofs.settle.rest.Given as goal

abbrev pub invariant-rounds : goal.invariant-rounds
invariant-rounds l = Resting l.internals l.calls l.returns l.moves l.pushes l.pops l.k l.n l.initial.rows l.rows (l.most - l._round)
