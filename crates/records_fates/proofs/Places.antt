-- Records of one class have one image exactly where they have one place. The records' width is a variable. Assumes nothing.
use mathlib.Core.Path.{◌≡◌, refl, sym, ap, ◌∙◌}
use mathlib.Core.Logic.{◌≢◌}
use mathlib.Core.List.{List, [], ◌∷◌, map}
use Prim.Native.Nat.{ℕ, zero, suc, ◌+◌, ◌-◌, ◌*◌, ◌<◌, ◌≤◌}
use native.Mathlib.Omega.{arith}
use native.Mathlib.Decide.{ℕ_discrete}
use lib.ListN.{length, get_or}
use lib.Seq.{ext_get_or}
use Rattle.lists.proofs.Members.{get_d_map}
use Rattle.limits.specs.Limits.{state_most, symbol_most}
use Rattle.table_spec.specs.Maps.{class_of}
use Rattle.quotient_spec.specs.Quotient.{image}
use Rattle.quotient_spec.proofs.Image.{image-length}
use Rattle.records_fates.specs.Marks.{place_of, Placed}

-- the bytes of an image: each state's class, and the symbol
image-class : (m r : List ℕ) (i : ℕ) → i ≢ 1 → i < length r → get_or (image m r) i 0 ≡ class_of m (get_or r i 0)
unfolding image
image-class m [] i n h = absurd (omega arith)
image-class m (p ∷ []) zero n h = refl
image-class m (p ∷ []) (suc i) n h = absurd (omega arith)
image-class m (p ∷ a ∷ qs) zero n h = refl
image-class m (p ∷ a ∷ qs) (suc zero) n h = absurd (n refl)
image-class m (p ∷ a ∷ qs) (suc (suc i)) n h = get_d_map (class_of m) qs i 0 0 (omega arith)

image-symbol : (m r : List ℕ) → 2 ≤ length r → get_or (image m r) 1 0 ≡ get_or r 1 0
unfolding image
image-symbol m [] h = absurd (omega arith)
image-symbol m (p ∷ []) h = absurd (omega arith)
image-symbol m (p ∷ a ∷ qs) h = refl

module _ (m e r : List ℕ) (w : length e ≡ length r) (k : Placed m e) (l : Placed m r) where
  -- what an image shows
  pub of_image : image m e ≡ image m r → (class_of m (get_or e 0 0) ≡ class_of m (get_or r 0 0)) × (place_of m e ≡ place_of m r)
  unfolding place_of
  of_image i =
      let last : class_of m (get_or e (length e - 1) 0) ≡ class_of m (get_or r (length r - 1) 0) = ap (λ n. class_of m (get_or e (n - 1) 0)) w ∙ class (length r - 1) (λ z. omega (arith, l.least)) (omega (arith, l.least)) in
      (class 0 (λ z. omega arith) (omega (arith, l.least)), λ j. (symbol j * 40 + class 2 (λ z. omega arith) (omega (arith, l.least)) j) * 40 + last j)
    where
      class : (j : ℕ) → j ≢ 1 → j < length r → class_of m (get_or e j 0) ≡ class_of m (get_or r j 0)
      class j n h = sym (image-class m e j n (omega arith)) ∙ ap (λ x. get_or x j 0) i ∙ image-class m r j n h

      symbol : get_or e 1 0 ≡ get_or r 1 0
      symbol = sym (image-symbol m e (omega (arith, k.least))) ∙ ap (λ x. get_or x 1 0) i ∙ image-symbol m r (omega (arith, l.least))

  -- and what shows it
  pub to-image : class_of m (get_or e 0 0) ≡ class_of m (get_or r 0 0) → place_of m e ≡ place_of m r → image m e ≡ image m r
  unfolding place_of
  to-image c p = ext_get_or 0 (image m e) (image m r) (image-length m e ∙ w ∙ sym (image-length m r)) each
    where
      symbol : get_or e 1 0 ≡ get_or r 1 0
      symbol = omega (arith, p, k.class (get_or e 2 0), k.class (get_or e (length e - 1) 0), k.class (get_or r 2 0), k.class (get_or r (length r - 1) 0))

      third : class_of m (get_or e 2 0) ≡ class_of m (get_or r 2 0)
      third = omega (arith, p, k.class (get_or e 2 0), k.class (get_or e (length e - 1) 0), k.class (get_or r 2 0), k.class (get_or r (length r - 1) 0))

      last : class_of m (get_or e (length e - 1) 0) ≡ class_of m (get_or r (length r - 1) 0)
      last = omega (arith, p, k.class (get_or e 2 0), k.class (get_or e (length e - 1) 0), k.class (get_or r 2 0), k.class (get_or r (length r - 1) 0))

      fourth : (n : ℕ) → n ≡ length e - 1 → n ≡ length r - 1 → class_of m (get_or e n 0) ≡ class_of m (get_or r n 0)
      fourth n a b = ap (λ j. class_of m (get_or e j 0)) a ∙ last ∙ ap (λ j. class_of m (get_or r j 0)) (sym b)

      class : (j : ℕ) → j ≢ 1 → j < length r → class_of m (get_or e j 0) ≡ class_of m (get_or r j 0)
      class zero n h = c
      class (suc zero) n h = absurd (n refl)
      class (suc (suc zero)) n h = third
      class (suc (suc (suc j))) n h = fourth (suc (suc (suc j))) (omega (arith, l.most)) (omega (arith, l.most))

      each : (j : ℕ) → j < length (image m e) → get_or (image m e) j 0 ≡ get_or (image m r) j 0
      each j h = go (ℕ_discrete j 1) (omega (arith, image-length m e))
        where
          go : Dec (j ≡ 1) → j < length e → get_or (image m e) j 0 ≡ get_or (image m r) j 0
          go (yes z) f = ap (λ n. get_or (image m e) n 0) z ∙ image-symbol m e (omega (arith, k.least)) ∙ symbol ∙ sym (image-symbol m r (omega (arith, l.least))) ∙ ap (λ n. get_or (image m r) n 0) (sym z)
          go (no z) f = image-class m e j z f ∙ class j z (omega arith) ∙ sym (image-class m r j z (omega arith))
