-- Leaving out repeated literals and tautologies changes what a clause says of no assignment. Assumes nothing.
use mathlib.Core.Path.{◌≡◌, refl, sym, ap, subst}
use mathlib.Core.Logic.{◌⊎◌, inl, inr}
use mathlib.Core.Bool.{Bool, true, false}
use mathlib.Core.List.Memᴰ
use mathlib.Core.List.Memᴰ.{append_cases}
use mathlib.Core.List.Memᴰ.{cases_cons}
use mathlib.Core.List.Memᴰ.{eq_of_singleton}
use mathlib.Core.List.Memᴰ.{not-nil}
use mathlib.Core.List.{List, [], ◌∷◌, ◌++◌, map, Memᴰ}
use Prim.Native.Nat.{ℕ, ◌+◌, ◌-◌, ◌/◌, ◌%◌, ◌<◌}
use native.Mathlib.Omega.{arith}
use native.Mathlib.Decide.{ℕ_discrete}
use lib.Dec.{eqb}
use borrow.Author.Tests.{eqb-true, eqb-false}
use Rattle.lists.specs.Lists.{any, mem}
use Rattle.lists.proofs.Members.{any-true, mem-true, mem-false}
use Rattle.cnf.specs.Clauses.{value_of, Right}
use Rattle.pairs.specs.Triangles.{together}
use Rattle.clauses_spec.specs.Clauses.{opposite, once, tidy, matching}

-- the same variable, the other way
pub opposite_half : (l : ℕ) → opposite l / 2 ≡ l / 2
unfolding opposite
opposite_half l = go (eqb (l % 2) 0) refl
  where
    go : (t : Bool) → eqb (l % 2) 0 ≡ t → elim t as (λ _. ℕ) [ true ↦ l + 1 | false ↦ l - 1 ] / 2 ≡ l / 2
    go true e = omega (arith, eqb-true (l % 2) 0 e)
    go false e = omega (arith, eqb-false (l % 2) 0 e)

pub opposite_sign : (l : ℕ) → opposite l % 2 + l % 2 ≡ 1
unfolding opposite
opposite_sign l = go (eqb (l % 2) 0) refl
  where
    go : (t : Bool) → eqb (l % 2) 0 ≡ t → elim t as (λ _. ℕ) [ true ↦ l + 1 | false ↦ l - 1 ] % 2 + l % 2 ≡ 1
    go true e = omega (arith, eqb-true (l % 2) 0 e)
    go false e = omega (arith, eqb-false (l % 2) 0 e)

-- ---- each literal once

pub once-mem : (before ls : List ℕ) (l : ℕ) → Memᴰ l (once before ls) → Memᴰ l ls
unfolding once
once-mem before [] l m = m
once-mem before (x ∷ ls) l m = go (mem x before) m (once-mem before ls l) (once-mem (x ∷ before) ls l)
  where
    go :
        (t : Bool) → Memᴰ l (elim t [ true ↦ once before ls | false ↦ x ∷ once (x ∷ before) ls ]) → (Memᴰ l (once before ls) → Memᴰ l ls)
        → (Memᴰ l (once (x ∷ before) ls) → Memᴰ l ls) → Memᴰ l (x ∷ ls)
    go true k f g = Memᴰ.tail (f k)
    go false (Memᴰ.head e) f g = Memᴰ.head e
    go false (Memᴰ.tail k) f g = Memᴰ.tail (g k)

pub mem-once : (before ls : List ℕ) (l : ℕ) → Memᴰ l ls → Memᴰ l before ⊎ Memᴰ l (once before ls)
unfolding once
mem-once before [] l m = absurd (not-nil m)
mem-once before (x ∷ ls) l m = go (mem x before) refl (cases_cons m) (mem-once before ls l) (mem-once (x ∷ before) ls l)
  where
    shown : (l ≡ x) ⊎ Memᴰ l before → Memᴰ l before ⊎ Memᴰ l (x ∷ once (x ∷ before) ls)
    shown (inl e) = inr (Memᴰ.head e)
    shown (inr k) = inl k

    later : Memᴰ l (x ∷ before) ⊎ Memᴰ l (once (x ∷ before) ls) → Memᴰ l before ⊎ Memᴰ l (x ∷ once (x ∷ before) ls)
    later (inl k) = shown (cases_cons k)
    later (inr k) = inr (Memᴰ.tail k)

    go :
        (t : Bool) → mem x before ≡ t → (l ≡ x) ⊎ Memᴰ l ls → (Memᴰ l ls → Memᴰ l before ⊎ Memᴰ l (once before ls))
        → (Memᴰ l ls → Memᴰ l (x ∷ before) ⊎ Memᴰ l (once (x ∷ before) ls))
        → Memᴰ l before ⊎ Memᴰ l (elim t [ true ↦ once before ls | false ↦ x ∷ once (x ∷ before) ls ])
    go true p (inl e) f g = inl (subst (λ (y : ℕ). Memᴰ y before) (sym e) (mem-true x before p))
    go true p (inr k) f g = f k
    go false p (inl e) f g = inr (Memᴰ.head e)
    go false p (inr k) f g = later (g k)

-- ---- under an assignment

module _ (v : List ℕ) where
  -- some literal is right
  abbrev pub HasRight : List ℕ → Type 0
  HasRight ls = (l : ℕ) × Memᴰ l ls × Right v l

  -- every clause has a literal that is right
  abbrev pub Satisfied : List (List ℕ) → Type 0
  Satisfied cs = (c : List ℕ) → Memᴰ c cs → HasRight c

  -- every literal's variable is set
  abbrev pub Set : List ℕ → Type 0
  Set ls = (l : ℕ) → Memᴰ l ls → value_of v (l / 2) < 2

  pub tidy_of : (ls : List ℕ) → HasRight ls → Satisfied (tidy ls)
  unfolding tidy
  tidy_of ls h c m = go (any (λ l. mem (opposite l) ls) ls) m
    where
      there : Memᴰ h.0 [] ⊎ Memᴰ h.0 (once [] ls) → HasRight (once [] ls)
      there (inl k) = absurd (not-nil k)
      there (inr k) = (h.0, k, h.2)

      go : (t : Bool) → Memᴰ c (elim t [ true ↦ [] | false ↦ once [] ls ∷ [] ]) → HasRight c
      go true k = absurd (not-nil k)
      go false k = subst (λ (d : List ℕ). HasRight d) (sym (eq_of_singleton k)) (there (mem-once [] ls h.0 h.1))

  pub of_tidy : (ls : List ℕ) → Set ls → Satisfied (tidy ls) → HasRight ls
  unfolding tidy
  of_tidy ls s h = go (any (λ l. mem (opposite l) ls) ls) refl h
    where
      either : (l : ℕ) → Memᴰ l ls → Memᴰ (opposite l) ls → Dec (Right v l) → HasRight ls
      either l m k (yes r) = (l, m, r)
      either l m k (no r) = (opposite l, k, omega (arith, ap (value_of v) (opposite_half l), opposite_sign l, s l m))

      go : (t : Bool) → any (λ l. mem (opposite l) ls) ls ≡ t → Satisfied (elim t [ true ↦ [] | false ↦ once [] ls ∷ [] ]) → HasRight ls
      go true e f = let r = any-true (λ l. mem (opposite l) ls) ls e in either r.0 r.1 (mem-true (opposite r.0) ls r.2) (ℕ_discrete (value_of v (r.0 / 2) + r.0 % 2) 1)
      go false e f = let r = f (once [] ls) (Memᴰ.head refl) in (r.0, once-mem [] ls r.0 r.1, r.2)

  -- ---- premises and targets

  -- a premise is false, or the target p' itself or one joined to it is among the targets
  pub data Matches (premises : List ℕ) (p' : ℕ) (qs : List ℕ) : Type 0 where
    not-all : HasRight premises → Matches premises p' qs
    itself : Memᴰ p' qs → Matches premises p' qs
    to : (q' : ℕ) → Memᴰ q' qs → Right v (together p' q') → Matches premises p' qs

  pub matching_of : (premises : List ℕ) (p' : ℕ) (qs : List ℕ) → Matches premises p' qs → Satisfied (matching premises p' qs)
  unfolding matching
  matching_of premises p' qs h c m = go (mem p' qs) refl m
    where
      right : mem p' qs ≡ false → Matches premises p' qs → HasRight (premises ++ map (together p') qs)
      right e (not-all r) = (r.0, Memᴰ.append_left _ r.1, r.2)
      right e (itself k) = absurd (mem-false p' qs e p' k refl)
      right e (to q' k r) = (together p' q', Memᴰ.append_right premises (Memᴰ.map (together p') k), r)

      go : (t : Bool) → mem p' qs ≡ t → Memᴰ c (elim t [ true ↦ [] | false ↦ tidy (premises ++ map (together p') qs) ]) → HasRight c
      go true e k = absurd (not-nil k)
      go false e k = tidy_of (premises ++ map (together p') qs) (right e h) c k

  pub of_matching : (premises : List ℕ) (p' : ℕ) (qs : List ℕ) → (mem p' qs ≡ false → Set (premises ++ map (together p') qs)) → Satisfied (matching premises p' qs) → Matches premises p' qs
  unfolding matching
  of_matching premises p' qs s h = go (mem p' qs) refl h
    where
      pick : (l : ℕ) → Right v l → Memᴰ l premises ⊎ Memᴰ l (map (together p') qs) → Matches premises p' qs
      pick l r (inl k) = not-all (l, k, r)
      pick l r (inr k) = let j = Memᴰ.of_map (together p') qs k in to j.0 j.1 (subst (λ (x : ℕ). Right v x) (sym j.2) r)

      go : (t : Bool) → mem p' qs ≡ t → Satisfied (elim t [ true ↦ [] | false ↦ tidy (premises ++ map (together p') qs) ]) → Matches premises p' qs
      go true e f = itself (mem-true p' qs e)
      go false e f = let r = of_tidy (premises ++ map (together p') qs) (s e) f in pick r.0 r.2 (append_cases premises r.1)
