-- The images of records under a map: the members of `images m rs`, and the image of a record of each width. Assumes nothing.
use mathlib.Core.Path.{◌≡◌, refl, sym, ap}
use mathlib.Core.Logic.{◌↔◌}
use mathlib.Core.List.Memᴰ
use mathlib.Core.List.{List, [], ◌∷◌, map, Memᴰ}
use Prim.Native.Nat.{ℕ, suc, ◌≤◌}
use native.Mathlib.Omega.{arith}
use lib.ListN.{length, length-map}
use Rattle.table_spec.specs.Maps.{class_of}
use Rattle.quotient_spec.specs.Quotient.{image, images}
use Rattle.quotient_spec.proofs.Ascending.{ascending-mem, ascending_of, ascending-length}

pub images-mem : (m : List ℕ) (rs : List (List ℕ)) (r : List ℕ) → Memᴰ r (images m rs) ↔ ((s : List ℕ) × Memᴰ s rs × (image m s ≡ r))
unfolding images
images-mem m rs r = (
  λ k. Memᴰ.of_map (image m) rs (ascending-mem (map (image m) rs) r k),
  λ s. ascending_of (map (image m) rs) r (Memᴰ.cast (sym s.2) (Memᴰ.map (image m) s.1)),
)

pub images-length : (m : List ℕ) (rs : List (List ℕ)) → length (images m rs) ≤ length rs
unfolding images
images-length m rs = omega (arith, ascending-length (map (image m) rs), length-map rs (image m))

pub image_move : (m : List ℕ) (p a q : ℕ) → image m (p ∷ a ∷ q ∷ []) ≡ class_of m p ∷ a ∷ class_of m q ∷ []
unfolding image
image_move m p a q = refl

pub image-return : (m : List ℕ) (p a s q : ℕ) → image m (p ∷ a ∷ s ∷ q ∷ []) ≡ class_of m p ∷ a ∷ class_of m s ∷ class_of m q ∷ []
unfolding image
image-return m p a s q = refl

pub image-length : (m r : List ℕ) → length (image m r) ≡ length r
unfolding image
image-length m [] = refl
image-length m (p ∷ []) = refl
image-length m (p ∷ a ∷ qs) = ap (λ n. suc (suc n)) (length-map qs (class_of m))
