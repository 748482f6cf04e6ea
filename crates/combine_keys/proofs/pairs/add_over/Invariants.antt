-- `combine_keys::pairs::add_over` meets its contract: the returns over the pairs so far are added. Assumes nothing.
use Prim.Native.Nat.{◌+◌, ◌*◌}
use mathlib.Core.List.{[], ◌∷◌, map}
use lib.ListN.{drop}
use Rattle.lists.specs.Lists.{upto}
use Rattle.table_spec.specs.File.{records}
use Rattle.table_find.specs.Keys.{key_from}
use Rattle.combine_spec.specs.Walk.{walk}
use Rattle.combine_keys.proofs.Adding.{Adding}
use Rattle.combine_keys.proofs.pairs.add_over.Given as goal

abbrev pub invariant-pushed : goal.invariant-pushed
invariant-pushed l =
    Adding (λ y. map (key_from ((l.pair * 256 + l.symbol) * 256 + y)) (walk l.states (records 4 l.first) (records 4 l.second) [] (l.pair ∷ l.symbol ∷ y ∷ []))) (upto l.pairs) l.initial.keys l.count l.keys l.held (drop l.pushed (upto l.pairs))
