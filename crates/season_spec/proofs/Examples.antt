-- Examples of seasons: lists of what the definitions answer, computed by the checker, and of what they must answer. Assumes nothing.
use mathlib.Core.Path.{◌≡◌, refl}
use mathlib.Core.List.{List, [], ◌∷◌, map}
use Prim.Native.Nat.{ℕ}
use lib.ListN.{replicate}
use Rattle.lists.specs.Lists.{sum, first_failed}
use Rattle.limits.specs.declared.Limits.{Limits}
use Rattle.limits.specs.Limits.{standard, limits_fit}
use Rattle.season_spec.specs.Seasons.{share_of, lengths_fit, season_number}

-- the limits, so many bytes of tables, and their lengths
abbrev number_for : Limits × ℕ × List ℕ → ℕ
number_for (L, n, lengths) = season_number L (replicate n 7) lengths

abbrev none : Limits
none = record { states = 0; symbols = 1 }

abbrev seasons : List (Limits × ℕ × List ℕ)
seasons =
    -- two tables, and eight, some of no bytes
    (standard, 5, 2 ∷ 3 ∷ [])
    ∷ (standard, 3, 0 ∷ 1 ∷ 0 ∷ 1 ∷ 0 ∷ 1 ∷ 0 ∷ 0 ∷ [])
    -- no table, and nine
    ∷ (standard, 0, [])
    ∷ (standard, 3, 0 ∷ 1 ∷ 0 ∷ 1 ∷ 0 ∷ 1 ∷ 0 ∷ 0 ∷ 0 ∷ [])
    -- lengths that fall short, that are too long, and that would only add up by wrapping
    ∷ (standard, 5, 2 ∷ 2 ∷ [])
    ∷ (standard, 5, 2 ∷ 4 ∷ [])
    ∷ (standard, 5, 18446744073709551615 ∷ 6 ∷ [])
    -- 39 before 34
    ∷ (none, 0, [])
    ∷ []

pub numbers : map number_for seasons ≡ 0 ∷ 0 ∷ 34 ∷ 34 ∷ 34 ∷ 34 ∷ 34 ∷ 39 ∷ []
unfolding sum first_failed limits_fit lengths_fit season_number
numbers = refl

-- the share of each of three tables: the remainder of the division is nobody's
pub shares : map (λ g. share_of g (1 ∷ 1 ∷ 1 ∷ [])) (0 ∷ 2 ∷ 3 ∷ 8 ∷ 9 ∷ []) ≡ 0 ∷ 0 ∷ 1 ∷ 2 ∷ 3 ∷ []
unfolding share_of
shares = refl
