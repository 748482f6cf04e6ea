-- Some record that starts with a key goes to a joined target: over the part that these records are. Assumes nothing.
use mathlib.Core.Path.{◌≡◌, refl, sym, ap, ◌∙◌}
use mathlib.Core.Bool.{Bool, ◌||◌}
use mathlib.Core.List.{List, [], ◌∷◌, map}
use Prim.Native.Nat.{ℕ, ◌+◌, ◌-◌}
use native.Mathlib.Omega.{arith}
use lib.ListN.{length, get_or}
use Rattle.lists.specs.Lists.{any, filter}
use Rattle.table_spec.specs.File.{records}
use Rattle.table_spec.specs.Language.{targets}
use lib.Dec.{eqb}
use Rattle.table_spec.specs.Maps.{class_of, joins}
use Rattle.table_find.specs.Spans.{starts_with}

any-map : (f : ℕ → Bool) (g : List ℕ → ℕ) (rs : List (List ℕ)) → any f (map g rs) ≡ any (λ r. f (g r)) rs
any-map f g [] = refl
any-map f g (r ∷ rs) = ap (λ (b : Bool). f (g r) || b) (any-map f g rs)

-- the record's target, after a key of k bytes, is joined to this one
abbrev pub goes : List ℕ → ℕ → ℕ → List ℕ → Bool
goes m target k r = joins m target (get_or r k 0)

-- as the code compares classes
pub goes_by : (m : List ℕ) (target k : ℕ) (r : List ℕ) {class q : ℕ} {b v : Bool} → class ≡ class_of m target → q ≡ get_or r k 0 → b ≡ eqb class (class_of m q) → b ≡ v → goes m target k r ≡ v
unfolding joins
goes_by m target k r e f g h = (λ i. eqb (sym e i) (class_of m (sym f i))) ∙ sym g ∙ h

-- over the part is over the section's targets
pub over-targets :
    (w : ℕ) (section key found m : List ℕ) (target : ℕ) {b : Bool} → length key + 1 ≡ w → records w found ≡ filter (starts_with key) (records w section)
    → b ≡ any (goes m target (w - 1)) (records w found) → b ≡ any (joins m target) (targets (records w section) key)
unfolding targets starts_with
over-targets w section key found m target l e h =
    let n : w - 1 ≡ length key = omega arith in
    h ∙ (λ i. any (goes m target (n i)) (e i)) ∙ sym (any-map (joins m target) (λ r. get_or r (length key) 0) (filter (starts_with key) (records w section)))
