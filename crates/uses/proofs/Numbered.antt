-- What refuses lines, record by record. Assumes nothing.
use mathlib.Core.Path.{◌≡◌, refl}
use mathlib.Core.Bool.{◌&&◌}
use mathlib.Core.List.{List, [], ◌∷◌, map}
use Prim.Native.Nat.{ℕ}
use lib.Dec.{ltb}
use Rattle.lists.specs.Lists.{all}
use Rattle.table_spec.specs.File.{records}
use Rattle.uses_spec.specs.Uses.{line_of, lines_of, states_fit}

-- 33 is told by the records
pub states_tests : (n : ℕ) (s : List ℕ) → states_fit n s ≡ all (λ r. ltb (line_of r).state n) (records 5 s)
unfolding states_fit lines_of
states_tests n s = go (records 5 s)
  where
    go : (rs : List (List ℕ)) → all (λ l. ltb l.state n) (map line_of rs) ≡ all (λ r. ltb (line_of r).state n) rs
    go [] = refl
    go (r ∷ rs) = λ i. ltb (line_of r).state n && go rs i
