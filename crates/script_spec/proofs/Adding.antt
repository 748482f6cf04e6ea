-- What the records of a section add to a level, bit by bit. Assumes nothing.
use mathlib.Core.Path.{◌≡◌, refl, sym, subst}
use mathlib.Core.Logic.{◌⊎◌, inl, inr}
use mathlib.Core.Bool.{Bool, true, false}
use mathlib.Core.List.{List, [], ◌∷◌, Memᴰ}
use Prim.Native.Nat.{ℕ, ◌<◌}
use native.Mathlib.Omega.{arith}
use lib.ListN.{length, get_or}
use lib.Dec.{eqb}
use borrow.Author.Tests.{eqb-true, eqb-false}
use Rattle.lists.specs.Bits.{Bit}
use Rattle.tops_spec.specs.Tops.{add}
use Rattle.tops_spec.proofs.Walks.{InWords, below_refl, below_trans, length-add, add-bit, add-own, add-below}
use Rattle.script_spec.specs.Script.{Level, gains, gained}

module _ (gain : List ℕ → ℕ) (to a : ℕ) where
  -- some record by a has the target p, and it gains x
  pub record Gains (rs : List (List ℕ)) (p x : ℕ) : Type 0 where
    pub by : List ℕ
    pub among : Memᴰ by rs
    pub symbol : get_or by 1 0 ≡ a
    pub target : get_or by to 0 ≡ p
    pub gains : Bit (gain by) x

  further : {r : List ℕ} {rs : List (List ℕ)} {p x : ℕ} → Gains rs p x → Gains (r ∷ rs) p x
  further h = record { by = h.by; among = Memᴰ.tail h.among; symbol = h.symbol; target = h.target; gains = h.gains }

  -- ---- one record

  module _ (r : List ℕ) (g : Level) where
    by_test : Bool → Level
    by_test t = elim t [ true ↦ add g (get_or r to 0) (gain r) | false ↦ g ]

    gains-length : length (gains gain to a r g) ≡ length g
    unfolding gains by_test
    gains-length = go (eqb (get_or r 1 0) a)
      where
        go : (t : Bool) → length (by_test t) ≡ length g
        go true = length-add g _ _
        go false = refl

    gains-below : InWords g (gains gain to a r g)
    unfolding gains by_test
    gains-below = go (eqb (get_or r 1 0) a)
      where
        go : (t : Bool) → InWords g (by_test t)
        go true = add-below g _ _
        go false = below_refl g

    gains-bit : (rs : List (List ℕ)) (p x : ℕ) → Bit (get_or (gains gain to a r g) p 0) x → Bit (get_or g p 0) x ⊎ Gains (r ∷ rs) p x
    unfolding gains by_test
    gains-bit rs p x b = go (eqb (get_or r 1 0) a) refl b
      where
        own : get_or r 1 0 ≡ a → Bit (get_or g p 0) x ⊎ ((p ≡ get_or r to 0) × Bit (gain r) x) → Bit (get_or g p 0) x ⊎ Gains (r ∷ rs) p x
        own e (inl c) = inl c
        own e (inr c) = inr (record { by = r; among = Memᴰ.head refl; symbol = e; target = sym c.0; gains = c.1 })

        go : (t : Bool) → eqb (get_or r 1 0) a ≡ t → Bit (get_or (by_test t) p 0) x → Bit (get_or g p 0) x ⊎ Gains (r ∷ rs) p x
        go true e c = own (eqb-true _ _ e) (add-bit g (get_or r to 0) (gain r) p x c)
        go false e c = inl c

    gains-own : (x : ℕ) → get_or r 1 0 ≡ a → get_or r to 0 < length g → Bit (gain r) x → Bit (get_or (gains gain to a r g) (get_or r to 0) 0) x
    unfolding gains by_test
    gains-own x e l b = go (eqb (get_or r 1 0) a) refl
      where
        go : (t : Bool) → eqb (get_or r 1 0) a ≡ t → Bit (get_or (by_test t) (get_or r to 0) 0) x
        go true f = add-own g (get_or r to 0) (gain r) x l b
        go false f = absurd (eqb-false _ _ f e)

  -- ---- all of them

  gained-below : (rs : List (List ℕ)) (g : Level) → InWords g (gained gain to a rs g)
  unfolding gained
  gained-below [] g = below_refl g
  gained-below (r ∷ rs) g = below_trans (gains-below r g) (gained-below rs (gains gain to a r g))

  -- nothing but what was there and what some record gives
  pub gained-forth : (rs : List (List ℕ)) (g : Level) (p x : ℕ) → Bit (get_or (gained gain to a rs g) p 0) x → Bit (get_or g p 0) x ⊎ Gains rs p x
  unfolding gained
  gained-forth [] g p x b = inl b
  gained-forth (r ∷ rs) g p x b = go (gained-forth rs (gains gain to a r g) p x b)
    where
      go : Bit (get_or (gains gain to a r g) p 0) x ⊎ Gains rs p x → Bit (get_or g p 0) x ⊎ Gains (r ∷ rs) p x
      go (inl c) = gains-bit r g rs p x c
      go (inr c) = inr (further c)

  gained-own :
      (x : ℕ) (rs : List (List ℕ)) (g : Level) → ((r : List ℕ) → Memᴰ r rs → get_or r to 0 < length g) → (r : List ℕ) → Memᴰ r rs → get_or r 1 0 ≡ a
      → Bit (gain r) x → Bit (get_or (gained gain to a rs g) (get_or r to 0) 0) x
  unfolding gained
  gained-own x [] g l r m e b = elim m [ ]
  gained-own x (s ∷ rs) g l r (Memᴰ.head q) e b =
      subst (λ k. Bit (get_or (gained gain to a rs (gains gain to a s g)) (get_or k to 0) 0) x) (sym q)
      ((gained-below rs (gains gain to a s g)).keeps (get_or s to 0) x (gains-own s g x (subst (λ k. get_or k 1 0 ≡ a) q e) (l s (Memᴰ.head refl)) (subst (λ k. Bit (gain k) x) q b)))
  gained-own x (s ∷ rs) g l r (Memᴰ.tail m) e b =
      gained-own x rs (gains gain to a s g) (λ k n. omega (arith, gains-length s g, l k (Memᴰ.tail n))) r m e b

  -- what some record gives
  pub gained-back : (rs : List (List ℕ)) (g : Level) → ((r : List ℕ) → Memᴰ r rs → get_or r to 0 < length g) → (p x : ℕ) → Gains rs p x → Bit (get_or (gained gain to a rs g) p 0) x
  gained-back rs g l p x h = subst (λ k. Bit (get_or (gained gain to a rs g) k 0) x) h.target (gained-own x rs g l h.by h.among h.symbol h.gains)
