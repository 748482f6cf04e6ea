-- Laws on the values and the trail: a literal's value, variables unset again, and a trail that grows. Assumes nothing.
use mathlib.Core.Path.{◌≡◌, refl, sym, ap, ◌∙◌}
use mathlib.Core.Logic.{◌≢◌, ◌⊎◌, inl, inr}
use mathlib.Core.List.Memᴰ.{append_cases}
use mathlib.Core.List.Memᴰ.{eq_of_singleton}
use mathlib.Core.List.Memᴰ.{not-nil}
use mathlib.Core.List.{List, [], ◌∷◌, ◌++◌, append-nil, append_assoc, Memᴰ}
use Prim.Native.Nat.{ℕ, ◌+◌, ◌/◌, ◌%◌, ◌≤◌, ◌<◌}
use native.Mathlib.Numerals.{add-one}
use native.Mathlib.Omega.{arith}
use lib.Dec.{eqb}
use lib.ListN.{length, get_or, set, take, drop, length-set, length-append}
use lib.Seq.{slice, drop-append-le, set-set, set-get_or, get_or-set_other, take-suc-set, length-take-le}
use Rattle.lists.proofs.Members.{get_d_any}
use Rattle.cnf.specs.Clauses.{value_of}
use Rattle.cnf.specs.Search.{is_right, is_unset}
use Rattle.cnf.specs.Closing.{unset_count}
use Rattle.cnf.proofs.Values.{unset_set}
use Rattle.sat_trail.specs.Trail.{unsetting, Grown}

-- ---- a literal's value

module _ (v : List ℕ) (l : ℕ) {i : ℕ} (h : l / 2 < length v) (e : i ≡ l / 2) where
  value_at : value_of v (l / 2) ≡ get_or v i 0
  value_at = get_d_any v (l / 2) 2 0 h ∙ ap (λ (j : ℕ). get_or v j 0) (sym e)

  pub right-at : eqb (get_or v i 0 + l % 2) 1 ≡ is_right v l
  unfolding is_right
  right-at = rw value_at

  pub unset-at : eqb (get_or v i 0) 2 ≡ is_unset v l
  unfolding is_unset
  unset-at = rw value_at

-- ---- variables unset again

pub unsetting-append : (v xs ys : List ℕ) → unsetting v (xs ++ ys) ≡ unsetting (unsetting v ys) xs
unfolding unsetting
unsetting-append v [] ys = refl
unsetting-append v (x ∷ xs) ys = ap (λ (u : List ℕ). set u x 2) (unsetting-append v xs ys)

pub length-unsetting : (v xs : List ℕ) → length (unsetting v xs) ≡ length v
unfolding unsetting
length-unsetting v [] = refl
length-unsetting v (x ∷ xs) = length-set (unsetting v xs) x 2 ∙ length-unsetting v xs

-- what is not unset again has its value
unsetting-other : (v xs : List ℕ) (i : ℕ) → (Memᴰ i xs → ⊥) → value_of (unsetting v xs) i ≡ value_of v i
unfolding unsetting
unsetting-other v [] i h = refl
unsetting-other v (x ∷ xs) i h = get_or-set_other (unsetting v xs) x i 2 2 (λ e. h (Memᴰ.head e)) ∙ unsetting-other v xs i (λ m. h (Memᴰ.tail m))

-- a store where nothing was set is undone by unsetting
pub unsetting_store : (v : List ℕ) (x k : ℕ) → value_of v x ≡ 2 → unsetting (set v x k) (x ∷ []) ≡ v
unfolding unsetting
unsetting_store v x k e = set-set v x k 2 ∙ sym (ap (set v x) e) ∙ set-get_or v x 2

-- ---- a trail that grows

unfoldable pub grown-none : {v t : List ℕ} {count : ℕ} → count + unset_count v ≡ length v → Grown v t count v t count
unfolding unsetting
grown-none {v} {t} {count} e = record { long = refl; new = []; grows = sym (append-nil (take count t)); back = refl; below = λ x m. absurd (not-nil m); counted = e }

module _ {v t w s : List ℕ} {count more : ℕ} (g : Grown v t count w s more) where
  pub grown-length : length w ≡ length v
  grown-length = sym (length-unsetting w g.new) ∙ ap length g.back

  -- what was not set since has its value
  pub grown-same : (i : ℕ) → (Memᴰ i g.new → ⊥) → value_of w i ≡ value_of v i
  grown-same i h = sym (unsetting-other w g.new i h) ∙ ap (λ (u : List ℕ). value_of u i) g.back

  -- no fewer are set
  pub grown-count : count ≤ length t → length w ≤ length s → count ≤ more
  grown-count h k =
      omega
      (arith, g.counted, sym (length-take-le more s (omega (arith, g.counted))) ∙ ap length g.grows ∙ length-append (take count t) g.new, length-take-le count t h)

  -- a part of the trail, with what was set since after it
  pub grown_slice : {at : ℕ} → at ≤ count → count ≤ length t → slice at more s ≡ slice at count t ++ g.new
  grown_slice {at} h k = ap (drop at) g.grows ∙ drop-append-le at (take count t) g.new (omega (arith, length-take-le count t k))

  unfoldable pub grown_trans : {x r : List ℕ} {most : ℕ} → Grown w s more x r most → Grown v t count x r most
  grown_trans {x} {r} {most} h = record {
    long = h.long ∙ g.long;
    new = g.new ++ h.new;
    grows = h.grows ∙ ap (λ (l : List ℕ). l ++ h.new) g.grows ∙ append_assoc (take count t) g.new h.new;
    back = unsetting-append x g.new h.new ∙ ap (λ (l : List ℕ). unsetting l g.new) h.back ∙ g.back;
    below = λ y m. pick y (append_cases g.new m);
    counted = h.counted;
  }
    where
      pick : (y : ℕ) → Memᴰ y g.new ⊎ Memᴰ y h.new → y < length v
      pick y (inl m) = g.below y m
      pick y (inr m) = rw (← grown-length) (h.below y m)

-- one more variable
unfoldable pub grown_store :
    {v t : List ℕ} {count x k : ℕ} → count + unset_count v ≡ length v → length v ≤ length t → x < length v → value_of v x ≡ 2 → k ≢ 2
    → Grown v t count (set v x k) (set t count x) (count + 1)
grown_store {v} {t} {count} {x} {k} e room h u n =
    let one = unset_set v x k h u n in
    record {
      long = length-set t count x;
      new = x ∷ [];
      grows = rw add-one (take-suc-set t count x (omega arith));
      back = unsetting_store v x k u;
      below = λ y m. rw (eq_of_singleton m) h;
      counted = simp length-set (omega arith);
    }
