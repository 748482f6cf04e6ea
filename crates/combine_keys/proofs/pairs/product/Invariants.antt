-- `combine_keys::pairs::product` meets its contract: the records of the pairs so far are added. Assumes nothing.
use Prim.Native.Nat.{◌*◌}
use mathlib.Core.List.{[], ◌∷◌, map}
use lib.ListN.{drop}
use Rattle.lists.specs.Lists.{upto}
use Rattle.table_spec.specs.File.{records}
use Rattle.table_find.specs.Keys.{key_from}
use Rattle.combine_spec.specs.Walk.{walk}
use Rattle.combine_keys.specs.Factors.{stack_bounds}
use Rattle.combine_keys.proofs.Adding.{Adding}
use Rattle.combine_keys.proofs.pairs.product.Given as goal

abbrev pub invariant-pairs : goal.invariant-pairs
invariant-pairs l =
    Adding (λ x. map (key_from x) (walk l.states (records l.width l.first) (records l.width l.second) (l.symbols ∷ stack_bounds l.width (l.firsts * l.states)) (x ∷ []))) (upto (l.firsts * l.states)) l.initial.keys 0 l.keys l.held (drop l.pair (upto (l.firsts * l.states)))
