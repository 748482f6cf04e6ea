-- The fates of a section's records by their indexes, and by another test that says the same of them. Assumes nothing.
use mathlib.Core.Path.{◌≡◌, refl, sym, ap, ◌∙◌}
use mathlib.Core.Bool.{Bool, true, false, ◌&&◌, ◌||◌}
use mathlib.Core.List.Memᴰ
use mathlib.Core.List.{List, [], ◌∷◌, ◌++◌, append_assoc, append-nil, Memᴰ}
use Prim.Native.Nat.{ℕ, zero, suc, ◌<◌}
use native.Mathlib.Omega.{arith}
use lib.ListN.{length, get_or, take}
use Rattle.lists.specs.Lists.{any, same}
use Rattle.quotient_spec.specs.Quotient.{image}
use Rattle.records_spec.specs.Fates.{taken, fate, fates_behind}

-- a record's fate, by the records before it
pub fate-at : (alive : List ℕ → Bool) (m : List ℕ) (earlier rs : List (List ℕ)) (i : ℕ) → i < length rs
    → get_or (fates_behind alive m earlier rs) i 0 ≡ fate alive m (earlier ++ take i rs) (get_or rs i [])
unfolding fates_behind
fate-at alive m earlier [] i h = absurd (omega arith)
fate-at alive m earlier (r ∷ rs) zero h = ap (λ xs. fate alive m xs r) (sym (append-nil earlier))
fate-at alive m earlier (r ∷ rs) (suc i) h =
    fate-at alive m (earlier ++ (r ∷ [])) rs i (omega arith) ∙ ap (λ xs. fate alive m xs (get_or rs i [])) (append_assoc earlier (r ∷ []) (take i rs))

-- two tests that say the same of every record
module _ (g h : List ℕ → Bool) (m : List ℕ) where
  taken-same : (earlier : List (List ℕ)) (r : List ℕ) → ((x : List ℕ) → Memᴰ x earlier → g x ≡ h x) → taken g m earlier r ≡ taken h m earlier r
  unfolding taken
  taken-same [] r e = refl
  taken-same (x ∷ xs) r e = (λ i. (e x (Memᴰ.head refl) i && same (image m x) (image m r)) || taken-same xs r (λ y k. e y (Memᴰ.tail k)) i)

  fate-same : (earlier : List (List ℕ)) (r : List ℕ) → ((x : List ℕ) → Memᴰ x earlier → g x ≡ h x) → g r ≡ h r → fate g m earlier r ≡ fate h m earlier r
  unfolding fate
  fate-same earlier r e k = λ i. elim (k i) as (λ _. ℕ) [ true ↦ elim (taken-same earlier r e i) as (λ _. ℕ) [ true ↦ 1 | false ↦ 0 ] | false ↦ 2 ]

  fates_behind-same : (earlier rs : List (List ℕ)) → ((x : List ℕ) → Memᴰ x (earlier ++ rs) → g x ≡ h x) → fates_behind g m earlier rs ≡ fates_behind h m earlier rs
  unfolding fates_behind
  fates_behind-same earlier [] e = refl
  fates_behind-same earlier (r ∷ rs) e =
      λ i. fate-same earlier r (λ x k. e x (Memᴰ.append_left (r ∷ rs) k)) (e r (Memᴰ.append_right earlier (Memᴰ.head refl))) i
      ∷ fates_behind-same (earlier ++ (r ∷ [])) rs (λ x k. e x (rw append_assoc at k)) i

  pub fates_same : (rs : List (List ℕ)) → ((x : List ℕ) → Memᴰ x rs → g x ≡ h x) → fates_behind g m [] rs ≡ fates_behind h m [] rs
  fates_same rs e = fates_behind-same [] rs e
