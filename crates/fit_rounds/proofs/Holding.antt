-- What the code does to rows is what the definitions do to words. Assumes nothing.
use mathlib.Core.Path.{◌≡◌, refl, sym, ap, ◌∙◌, subst}
use mathlib.Core.Logic.{◌↔◌, ◌≢◌, ◌⊎◌, inl, inr}
use mathlib.Core.Bool.{Bool, true, false, ◌||◌, not, true≢false}
use mathlib.Core.List.{List, [], ◌∷◌}
use Prim.Native.Nat.{ℕ, zero, suc, ◌+◌, ◌*◌, ◌/◌, ◌%◌, ◌^◌, ◌<◌, ◌≤◌}
use native.Mathlib.Omega.{arith}
use native.Mathlib.Nat.{le_refl}
use native.Mathlib.Numerals.{add-one}
use native.Mathlib.Decide.{ℕ_discrete, dec_lt}
use lib.ListN.{length, get_or, set, take, drop, length-set, length-drop, get_or-eq_default}
use lib.Seq.{take-suc, get_or-drop, get_or-set_same, get_or-set_other, ext_get_or}
use lib.Pow.{pow-lt, pow_mono}
use lib.Bits.{bit_or, or_lt}
use lib.Dec.{eqb}
use borrow.Author.Tests.{eqb-true, eqb-false, eq-eqb, ne_eqb}
use Rattle.lists.specs.Bits.{Bit, has, has_bit}
use Rattle.lists.proofs.Bits.{or-bit, bit-left, bit-right, no_bit, bit-own, bit-pow, some-bit}
use Rattle.lists.proofs.Lowest.{bit_le}
use Rattle.std.proofs.lemmas.List.Folds.{list_any-append}
use Rattle.lists.specs.Lists.{any, same}
use Rattle.lists.proofs.Words.{bits_equal}
use Rattle.lists.proofs.Members.{same_true, same_of}
use Rattle.tops_spec.specs.Tops.{add}
use Rattle.tops_spec.proofs.Walks.{add-bit, add-below, add-own, length-add}
use Rattle.fit_rounds.specs.Rows.{Holds, joined, any_in, with_bit}

-- ---- what a join leaves

pub join_long : (k u v : ℕ) (f : List ℕ) → length (joined k u v f) ≡ length f
unfolding joined
join_long zero u v f = refl
join_long (suc k) u v f = length-set (joined k u v f) _ _ ∙ join_long k u v f

join_other : (k u v : ℕ) (f : List ℕ) (i : ℕ) → ((j : ℕ) → j < k → i ≢ v * 10 + j) → get_or (joined k u v f) i 0 ≡ get_or f i 0
unfolding joined
join_other zero u v f i h = refl
join_other (suc k) u v f i h = get_or-set_other (joined k u v f) (v * 10 + k) i _ 0 (h k (omega arith)) ∙ join_other k u v f i (λ j l. h j (omega arith))

join_own : (k u v : ℕ) (f : List ℕ) → k ≤ 10 → v * 10 + k ≤ length f → (j : ℕ) → j < k → get_or (joined k u v f) (v * 10 + j) 0 ≡ bit_or (get_or f (v * 10 + j) 0) (get_or f (u * 10 + j) 0)
unfolding joined
join_own zero u v f m l j h = absurd (omega arith)
join_own (suc k) u v f m l j h = go (ℕ_discrete j k) (join_own k u v f (omega arith) (omega arith) j)
  where
    go : Dec (j ≡ k) → (j < k → get_or (joined k u v f) (v * 10 + j) 0 ≡ bit_or (get_or f (v * 10 + j) 0) (get_or f (u * 10 + j) 0))
        → get_or (joined (suc k) u v f) (v * 10 + j) 0 ≡ bit_or (get_or f (v * 10 + j) 0) (get_or f (u * 10 + j) 0)
    go (yes e) r =
        let g = joined k u v f in
        subst (λ (i : ℕ). get_or (joined (suc k) u v f) (v * 10 + i) 0 ≡ bit_or (get_or f (v * 10 + i) 0) (get_or f (u * 10 + i) 0)) (sym e)
        (get_or-set_same g (v * 10 + k) _ 0 (omega (arith, join_long k u v f))
        ∙ (λ i. bit_or (join_other k u v f (v * 10 + k) (λ i l d. absurd (omega arith)) i) (join_other k u v f (u * 10 + k) (λ i l d. absurd (omega arith)) i)))
    go (no e) r = get_or-set_other (joined k u v f) (v * 10 + k) (v * 10 + j) _ 0 (λ d. e (omega arith)) ∙ r (omega arith)

-- ---- one word changed

set-small : (f : List ℕ) (i w : ℕ) → ((j : ℕ) → get_or f j 0 < 2 ^ 64) → w < 2 ^ 64 → (j : ℕ) → get_or (set f i w) j 0 < 2 ^ 64
set-small f i w h l j = go (ℕ_discrete j i) (dec_lt i (length f))
  where
    go : Dec (j ≡ i) → Dec (i < length f) → get_or (set f i w) j 0 < 2 ^ 64
    go (yes e) (yes k) = subst (λ (x : ℕ). x < 2 ^ 64) (sym (ap (λ n. get_or (set f i w) n 0) e ∙ get_or-set_same f i w 0 k)) l
    go (yes e) (no k) = subst (λ (x : ℕ). x < 2 ^ 64) (sym (get_or-eq_default (set f i w) 0 {n = j} (omega (arith, length-set f i w)))) (omega arith)
    go (no e) d = subst (λ (x : ℕ). x < 2 ^ 64) (sym (get_or-set_other f i j w 0 e)) (h j)

join_small : (k u v : ℕ) (f : List ℕ) → ((i : ℕ) → get_or f i 0 < 2 ^ 64) → (i : ℕ) → get_or (joined k u v f) i 0 < 2 ^ 64
unfolding joined
join_small zero u v f h i = h i
join_small (suc k) u v f h i = let g = join_small k u v f h in set-small (joined k u v f) (v * 10 + k) _ g (or_lt 64 _ _ (g (v * 10 + k)) (g (u * 10 + k))) i

-- the word of a bit, and its row
split : (x : ℕ) → x < 640 → (x / 64 < 10) × (x % 64 < 64)
split x h = (omega arith, omega arith)

-- ---- a row joined to another

module _ {f F : List ℕ} (h : Holds f F) where
  -- the bit's test
  pub held_is : (u x : ℕ) → u < 600 → x < 640 → eqb (get_or f (u * 10 + x / 64) 0 / 2 ^ (x % 64) % 2) 1 ≡ has F u x
  unfolding has has_bit
  held_is u x l k = go (ℕ_discrete (get_or F u 0 / 2 ^ x % 2) 1)
    where
      go : Dec (get_or F u 0 / 2 ^ x % 2 ≡ 1) → eqb (get_or f (u * 10 + x / 64) 0 / 2 ^ (x % 64) % 2) 1 ≡ eqb (get_or F u 0 / 2 ^ x % 2) 1
      go (yes e) = eq-eqb _ _ ((h.bits u x l k).1 e) ∙ sym (eq-eqb _ _ e)
      go (no e) = ne_eqb _ _ (λ g. e ((h.bits u x l k).0 g)) ∙ sym (ne_eqb _ _ e)

  module _ (u v : ℕ) (lu : u < length F) (lv : v < length F) where
    join_bit : (q x : ℕ) → q < 600 → x < 640 → Bit (get_or (joined 10 u v f) (q * 10 + x / 64) 0) (x % 64) ↔ Bit (get_or (add F v (get_or F u 0)) q 0) x
    join_bit q x l k = go (ℕ_discrete q v)
      where
        own : Bit (get_or f (v * 10 + x / 64) 0) (x % 64) ⊎ Bit (get_or f (u * 10 + x / 64) 0) (x % 64) → Bit (get_or (add F v (get_or F u 0)) v 0) x
        own (inl b) = (add-below F v (get_or F u 0)).keeps v x ((h.bits v x (omega (arith, h.few)) k).0 b)
        own (inr b) = add-own F v (get_or F u 0) x lv ((h.bits u x (omega (arith, h.few)) k).0 b)

        from : Bit (get_or F v 0) x ⊎ ((v ≡ v) × Bit (get_or F u 0) x) → Bit (bit_or (get_or f (v * 10 + x / 64) 0) (get_or f (u * 10 + x / 64) 0)) (x % 64)
        from (inl b) = bit-left (get_or f (v * 10 + x / 64) 0) (get_or f (u * 10 + x / 64) 0) (x % 64) ((h.bits v x (omega (arith, h.few)) k).1 b)
        from (inr b) = bit-right (get_or f (v * 10 + x / 64) 0) (get_or f (u * 10 + x / 64) 0) (x % 64) ((h.bits u x (omega (arith, h.few)) k).1 b.1)

        other : q ≢ v → Bit (get_or F q 0) x ⊎ ((q ≡ v) × Bit (get_or F u 0) x) → Bit (get_or F q 0) x
        other n (inl b) = b
        other n (inr b) = absurd (n b.0)

        go : Dec (q ≡ v) → Bit (get_or (joined 10 u v f) (q * 10 + x / 64) 0) (x % 64) ↔ Bit (get_or (add F v (get_or F u 0)) q 0) x
        go (yes e) = subst (λ (p : ℕ). Bit (get_or (joined 10 u v f) (p * 10 + x / 64) 0) (x % 64) ↔ Bit (get_or (add F v (get_or F u 0)) p 0) x) (sym e) (
            let w = join_own 10 u v f (le_refl 10) (omega (arith, h.long, h.few)) (x / 64) (split x k).0 in
            (λ b. own (or-bit (get_or f (v * 10 + x / 64) 0) (get_or f (u * 10 + x / 64) 0) (x % 64) (subst (λ (y : ℕ). Bit y (x % 64)) w b)), λ b. subst (λ (y : ℕ). Bit y (x % 64)) (sym w) (from (add-bit F v (get_or F u 0) v x b))))
        go (no n) =
            let w = join_other 10 u v f (q * 10 + x / 64) (λ j l d. n (omega (arith, split x k))) in
            (λ b. (add-below F v (get_or F u 0)).keeps q x ((h.bits q x l k).0 (subst (λ (y : ℕ). Bit y (x % 64)) w b)), λ b. subst (λ (y : ℕ). Bit y (x % 64)) (sym w) ((h.bits q x l k).1 (other n (add-bit F v (get_or F u 0) q x b))))

    pub join_holds : Holds (joined 10 u v f) (add F v (get_or F u 0))
    join_holds = record {
      long = join_long 10 u v f ∙ h.long;
      few = omega (arith, length-add F v (get_or F u 0), h.few);
      small = join_small 10 u v f h.small;
      narrow = λ q x b. go q x (add-bit F v (get_or F u 0) q x b);
      bits = join_bit;
    }
      where
        go : (q x : ℕ) → Bit (get_or F q 0) x ⊎ ((q ≡ v) × Bit (get_or F u 0) x) → x < 640
        go q x (inl b) = h.narrow q x b
        go q x (inr b) = h.narrow u x b.1

  -- ---- a bit put into a row

  module _ (v y : ℕ) (lv : v < length F) (ly : y < 640) where
    put_word : get_or (with_bit v y f) (v * 10 + y / 64) 0 ≡ bit_or (get_or f (v * 10 + y / 64) 0) (2 ^ (y % 64))
    unfolding with_bit
    put_word = get_or-set_same f (v * 10 + y / 64) _ 0 (omega (arith, h.long, h.few, split y ly))

    put_other : (i : ℕ) → i ≢ v * 10 + y / 64 → get_or (with_bit v y f) i 0 ≡ get_or f i 0
    unfolding with_bit
    put_other i n = get_or-set_other f (v * 10 + y / 64) i _ 0 n

    put_bit : (q x : ℕ) → q < 600 → x < 640 → Bit (get_or (with_bit v y f) (q * 10 + x / 64) 0) (x % 64) ↔ Bit (get_or (add F v (2 ^ y)) q 0) x
    put_bit q x l k = (λ b. forth b (ℕ_discrete (q * 10 + x / 64) (v * 10 + y / 64)), λ b. back (add-bit F v (2 ^ y) q x b) (ℕ_discrete (q * 10 + x / 64) (v * 10 + y / 64)))
      where
        -- the row and the word of a place
        row : q * 10 + x / 64 ≡ v * 10 + y / 64 → q ≡ v
        row e = omega (arith, split x k, split y ly)

        own : q * 10 + x / 64 ≡ v * 10 + y / 64 → Bit (get_or f (v * 10 + y / 64) 0) (x % 64) ⊎ Bit (2 ^ (y % 64)) (x % 64) → Bit (get_or (add F v (2 ^ y)) q 0) x
        own e (inl b) = (add-below F v (2 ^ y)).keeps q x ((h.bits q x l k).0 (subst (λ (i : ℕ). Bit (get_or f i 0) (x % 64)) (sym e) b))
        own e (inr b) =
            let g = bit-pow (y % 64) (x % 64) b in
            let i : x ≡ y = omega (arith, row e) in
            subst (λ (p : ℕ). Bit (get_or (add F v (2 ^ y)) p 0) x) (sym (row e)) (add-own F v (2 ^ y) x lv (subst (λ (z : ℕ). Bit (2 ^ z) x) i (bit-own x)))

        forth : Bit (get_or (with_bit v y f) (q * 10 + x / 64) 0) (x % 64) → Dec (q * 10 + x / 64 ≡ v * 10 + y / 64) → Bit (get_or (add F v (2 ^ y)) q 0) x
        forth b (no n) = (add-below F v (2 ^ y)).keeps q x ((h.bits q x l k).0 (subst (λ (w : ℕ). Bit w (x % 64)) (put_other (q * 10 + x / 64) n) b))
        forth b (yes e) = own e (or-bit (get_or f (v * 10 + y / 64) 0) (2 ^ (y % 64)) (x % 64) (subst (λ (w : ℕ). Bit w (x % 64)) (ap (λ i. get_or (with_bit v y f) i 0) e ∙ put_word) b))

        back : Bit (get_or F q 0) x ⊎ ((q ≡ v) × Bit (2 ^ y) x) → Dec (q * 10 + x / 64 ≡ v * 10 + y / 64) → Bit (get_or (with_bit v y f) (q * 10 + x / 64) 0) (x % 64)
        back (inl b) (no n) = subst (λ (w : ℕ). Bit w (x % 64)) (sym (put_other (q * 10 + x / 64) n)) ((h.bits q x l k).1 b)
        back (inl b) (yes e) = subst (λ (w : ℕ). Bit w (x % 64)) (sym (ap (λ i. get_or (with_bit v y f) i 0) e ∙ put_word)) (bit-left (get_or f (v * 10 + y / 64) 0) (2 ^ (y % 64)) (x % 64) (subst (λ (i : ℕ). Bit (get_or f i 0) (x % 64)) e ((h.bits q x l k).1 b)))
        back (inr b) (no n) = let g = bit-pow y x b.1 in absurd (n (λ i. b.0 i * 10 + g i / 64))
        back (inr b) (yes e) =
            let g = bit-pow y x b.1 in
            subst (λ (w : ℕ). Bit w (x % 64)) (sym (ap (λ i. get_or (with_bit v y f) i 0) e ∙ put_word)) (bit-right (get_or f (v * 10 + y / 64) 0) (2 ^ (y % 64)) (x % 64) (subst (λ (z : ℕ). Bit (2 ^ (z % 64)) (x % 64)) g (bit-own (x % 64))))

    pub put_holds : Holds (with_bit v y f) (add F v (2 ^ y))
    unfolding with_bit
    put_holds = record {
      long = length-set f _ _ ∙ h.long;
      few = omega (arith, length-add F v (2 ^ y), h.few);
      small = set-small f _ _ h.small (or_lt 64 _ _ (h.small _) (pow-lt (split y ly).1));
      narrow = λ q x b. go q x (add-bit F v (2 ^ y) q x b);
      bits = put_bit;
    }
      where
        go : (q x : ℕ) → Bit (get_or F q 0) x ⊎ ((q ≡ v) × Bit (2 ^ y) x) → x < 640
        go q x (inl b) = h.narrow q x b
        go q x (inr b) = let e = bit-pow y x b.1 in omega (arith, ly)

  -- ---- some bit of a row

  any_of_word : (k u j : ℕ) → j < k → get_or f (u * 10 + j) 0 ≢ 0 → any_in k u f ≡ true
  unfolding any_in
  any_of_word zero u j l n = absurd (omega arith)
  any_of_word (suc k) u j l n = go (eqb (get_or f (u * 10 + k) 0) 0) refl (ℕ_discrete j k) (any_of_word k u j)
    where
      go : (t : Bool) → eqb (get_or f (u * 10 + k) 0) 0 ≡ t → Dec (j ≡ k) → (j < k → get_or f (u * 10 + j) 0 ≢ 0 → any_in k u f ≡ true) → ◌≡◌ {A = Bool} (elim t [ true ↦ any_in k u f | false ↦ true ]) true
      go false e d r = refl
      go true e (yes d) r = absurd (n (ap (λ i. get_or f (u * 10 + i) 0) d ∙ eqb-true (get_or f (u * 10 + k) 0) 0 e))
      go true e (no d) r = r (omega arith) n

  word_of_any : (k u : ℕ) → any_in k u f ≡ true → (j : ℕ) × (j < k) × (get_or f (u * 10 + j) 0 ≢ 0)
  unfolding any_in
  word_of_any zero u e = absurd (true≢false (sym e))
  word_of_any (suc k) u e = go (eqb (get_or f (u * 10 + k) 0) 0) refl e (word_of_any k u)
    where
      go :
          (t : Bool) → eqb (get_or f (u * 10 + k) 0) 0 ≡ t → ◌≡◌ {A = Bool} (elim t [ true ↦ any_in k u f | false ↦ true ]) true
          → (any_in k u f ≡ true → (j : ℕ) × (j < k) × (get_or f (u * 10 + j) 0 ≢ 0)) → (j : ℕ) × (j < suc k) × (get_or f (u * 10 + j) 0 ≢ 0)
      go false g q r = (k, omega arith, eqb-false (get_or f (u * 10 + k) 0) 0 g)
      go true g q r = let s = r q in (s.0, omega (arith, s.1), s.2)

  bit-small : (w y : ℕ) → w < 2 ^ 64 → Bit w y → y < 64
  bit-small w y l b = go (dec_lt y 64)
    where
      go : Dec (y < 64) → y < 64
      go (yes k) = k
      go (no k) = let m : 2 ^ 64 ≤ 2 ^ y = pow_mono {i = 64} {j = y} (omega arith) in absurd (omega (arith, m, bit_le w y b))

  pub any_is : (u : ℕ) → u < 600 → (any_in 10 u f ≡ true) ↔ (get_or F u 0 ≢ 0)
  any_is u l = (forth, back)
    where
      forth : any_in 10 u f ≡ true → get_or F u 0 ≢ 0
      forth e z = go (word_of_any 10 u e)
        where
          at : (j : ℕ) → j < 10 → (y : ℕ) → Bit (get_or f (u * 10 + j) 0) y → ⊥
          at j k y b =
              let m = bit-small (get_or f (u * 10 + j) 0) y (h.small (u * 10 + j)) b in
              let x : (j * 64 + y) / 64 ≡ j = omega arith in
              let r : (j * 64 + y) % 64 ≡ y = omega arith in
              let c : Bit (get_or f (u * 10 + (j * 64 + y) / 64) 0) ((j * 64 + y) % 64) = subst (λ (p : ℕ). Bit (get_or f (u * 10 + p) 0) ((j * 64 + y) % 64)) (sym x) (subst (λ (p : ℕ). Bit (get_or f (u * 10 + j) 0) p) (sym r) b) in
              no_bit (j * 64 + y) (subst (λ (w : ℕ). Bit w (j * 64 + y)) z ((h.bits u (j * 64 + y) l (omega arith)).0 c))

          go : (j : ℕ) × (j < 10) × (get_or f (u * 10 + j) 0 ≢ 0) → ⊥
          go s = let b = some-bit (get_or f (u * 10 + s.0) 0) (get_or f (u * 10 + s.0) 0) (le_refl (get_or f (u * 10 + s.0) 0)) s.2 in at s.0 s.1 b.0 b.1

      back : get_or F u 0 ≢ 0 → any_in 10 u f ≡ true
      back n =
          let s = some-bit (get_or F u 0) (get_or F u 0) (le_refl (get_or F u 0)) n in
          let k = h.narrow u s.0 s.1 in
          any_of_word 10 u (s.0 / 64) (split s.0 k).0 (λ z. no_bit (s.0 % 64) (subst (λ (w : ℕ). Bit w (s.0 % 64)) z ((h.bits u s.0 l k).1 s.1)))

  -- the same as a test
  pub any_told : (u : ℕ) → u < 600 → any_in 10 u f ≡ not (eqb (get_or F u 0) 0)
  any_told u l = go (eqb (get_or F u 0) 0) refl (any_in 10 u f) refl
    where
      go : (t : Bool) → eqb (get_or F u 0) 0 ≡ t → (s : Bool) → any_in 10 u f ≡ s → s ≡ not t
      go true e true g = absurd ((any_is u l).0 g (eqb-true (get_or F u 0) 0 e))
      go true e false g = refl
      go false e true g = refl
      go false e false g = absurd (true≢false (sym ((any_is u l).1 (eqb-false (get_or F u 0) 0 e)) ∙ g))

-- ---- the loop over a row's words: those below k are joined

pub record Joining (u v : ℕ) (f0 f : List ℕ) (k : ℕ) : Type 0 where
  pub few : k ≤ 10
  pub meets : f ≡ joined k u v f0

pub joining : (u v : ℕ) (f : List ℕ) → Joining u v f f 0
unfolding joined
joining u v f = record { few = omega arith; meets = refl }

module _ {u v : ℕ} {f0 f : List ℕ} {k : ℕ} (p : Joining u v f0 f k) where
  pub join_on : k < 10 → Joining u v f0 (set f (v * 10 + k) (bit_or (get_or f (v * 10 + k) 0) (get_or f (u * 10 + k) 0))) (k + 1)
  unfolding joined
  join_on l = record { few = omega arith; meets = ap (λ g. set g (v * 10 + k) (bit_or (get_or g (v * 10 + k) 0) (get_or g (u * 10 + k) 0))) p.meets ∙ ap (λ n. joined n u v f0) (sym (add-one k)) }

  pub join_done : 10 ≤ k → f ≡ joined 10 u v f0
  join_done l = let e : k ≡ 10 = omega (arith, p.few) in p.meets ∙ ap (λ n. joined n u v f0) e

-- ---- the words of a row, looked through

pub row_any : (k u : ℕ) (f : List ℕ) → u * 10 + k ≤ length f → any (λ w. not (eqb w 0)) (take k (drop (u * 10) f)) ≡ any_in k u f
unfolding any_in
row_any zero u f h = refl
row_any (suc k) u f h =
    let r = drop (u * 10) f in
    let w : get_or r k 0 ≡ get_or f (u * 10 + k) 0 = get_or-drop (u * 10) f k 0 in
    ap (any (λ w. not (eqb w 0))) (take-suc r k 0 (omega (arith, length-drop (u * 10) f)))
    ∙ list_any-append (λ w. not (eqb w 0)) (take k r) (get_or r k 0 ∷ [])
    ∙ ap (λ b. b || (not (eqb (get_or r k 0) 0) || false)) (row_any k u f (omega arith))
    ∙ ap (λ x. any_in k u f || (not (eqb x 0) || false)) w
    ∙ last (any_in k u f) (eqb (get_or f (u * 10 + k) 0) 0)
  where
    last : (a b : Bool) → (a || (not b || false)) ≡ elim b [ true ↦ a | false ↦ true ]
    last true true = refl
    last true false = refl
    last false true = refl
    last false false = refl

-- ---- rows are the same where their words are

module _ {f g F G : List ℕ} (h : Holds f F) (k : Holds g G) (l : length F ≡ length G) where
  rows_words : f ≡ g → F ≡ G
  rows_words e = ext_get_or 0 F G l (λ u m. bits_equal (get_or F u 0) (get_or G u 0) (λ x b. forth u x m b) (λ x b. back u x m b))
    where
      forth : (u x : ℕ) → u < length F → Bit (get_or F u 0) x → Bit (get_or G u 0) x
      forth u x m b = let n = h.narrow u x b in (k.bits u x (omega (arith, h.few)) n).0 (subst (λ (r : List ℕ). Bit (get_or r (u * 10 + x / 64) 0) (x % 64)) e ((h.bits u x (omega (arith, h.few)) n).1 b))

      back : (u x : ℕ) → u < length F → Bit (get_or G u 0) x → Bit (get_or F u 0) x
      back u x m b = let n = k.narrow u x b in (h.bits u x (omega (arith, h.few)) n).0 (subst (λ (r : List ℕ). Bit (get_or r (u * 10 + x / 64) 0) (x % 64)) (sym e) ((k.bits u x (omega (arith, h.few)) n).1 b))

  words-rows : F ≡ G → f ≡ g
  words-rows e = ext_get_or 0 f g (h.long ∙ sym k.long) (λ i m. bits_equal (get_or f i 0) (get_or g i 0) (λ y b. over i y m h k e b) (λ y b. over i y m k h (sym e) b))
    where
      over : {a b A B : List ℕ} (i y : ℕ) → i < length f → Holds a A → Holds b B → A ≡ B → Bit (get_or a i 0) y → Bit (get_or b i 0) y
      over {a} {b} {A} {B} i y m p q d c =
          let n = bit-small p (get_or a i 0) y (p.small i) c in
          let x = i % 10 * 64 + y in
          let s : x / 64 ≡ i % 10 = omega arith in
          let r : x % 64 ≡ y = omega arith in
          let t : i / 10 * 10 + x / 64 ≡ i = omega arith in
          let u : i / 10 < 600 = omega (arith, h.long) in
          let z : x < 640 = omega arith in
          let v : Bit (get_or a (i / 10 * 10 + x / 64) 0) (x % 64) = subst (λ (j : ℕ). Bit (get_or a j 0) (x % 64)) (sym t) (subst (λ (j : ℕ). Bit (get_or a i 0) j) (sym r) c) in
          let o = (q.bits (i / 10) x u z).1 (subst (λ (W : List ℕ). Bit (get_or W (i / 10) 0) x) d ((p.bits (i / 10) x u z).0 v)) in
          subst (λ (j : ℕ). Bit (get_or b j 0) y) t (subst (λ (j : ℕ). Bit (get_or b (i / 10 * 10 + x / 64) 0) j) r o)

  pub same-held : same f g ≡ same F G
  same-held = go (same f g) refl (same F G) refl
    where
      go : (a : Bool) → same f g ≡ a → (b : Bool) → same F G ≡ b → a ≡ b
      go true e true d = refl
      go false e false d = refl
      go true e false d = absurd (true≢false (sym (same_of (rows_words (same_true f g e))) ∙ d))
      go false e true d = absurd (true≢false (sym (same_of (words-rows (same_true F G d))) ∙ e))
