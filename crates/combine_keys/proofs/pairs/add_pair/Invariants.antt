-- `combine_keys::pairs::add_pair` meets its contract: the records by the symbols so far are added. Assumes nothing.
use Prim.Native.Nat.{◌+◌, ◌*◌}
use mathlib.Core.List.{[], ◌∷◌, map}
use lib.ListN.{drop}
use Rattle.lists.specs.Lists.{upto}
use Rattle.table_spec.specs.File.{records}
use Rattle.table_find.specs.Keys.{key_from}
use Rattle.combine_spec.specs.Walk.{walk}
use Rattle.combine_keys.specs.Factors.{stack_bounds}
use Rattle.combine_keys.proofs.Adding.{Adding}
use Rattle.combine_keys.proofs.pairs.add_pair.Given as goal

abbrev pub invariant-symbols : goal.invariant-symbols
invariant-symbols l =
    Adding (λ a. map (key_from (l.pair * 256 + a)) (walk l.both.states (records l.both.width l.both.first.now) (records l.both.width l.both.second.now) (stack_bounds l.both.width (l.both.firsts * l.both.states)) (l.pair ∷ a ∷ []))) (upto l.symbols) l.initial.keys l.count l.keys l.held (drop l.symbol (upto l.symbols))
