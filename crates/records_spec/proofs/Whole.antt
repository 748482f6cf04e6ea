-- The fates by "an earlier one" anywhere in the file are those by the earlier records of the section: of a readable table no record of another section
-- has the same image. Assumes nothing.
use mathlib.Core.Path.{◌≡◌, refl, sym, ap, ◌∙◌}
use mathlib.Core.Bool.{Bool, true, false, ◌&&◌, ◌||◌, not}
use mathlib.Core.List.Memᴰ.{append_cases}
use mathlib.Core.List.{List, [], ◌∷◌, ◌++◌, append_assoc, append-nil, Memᴰ}
use mathlib.Core.Logic.{◌≢◌, ⊎_elim}
use Prim.Native.Nat.{ℕ, ◌<◌}
use native.Mathlib.Omega.{arith}
use lib.ListN.{length, get_or}
use lib.Dec.{eqb}
use Rattle.lists.specs.Lists.{any, same}
use Rattle.lists.proofs.Members.{not_so, same_true}
use Rattle.limits.specs.declared.Limits.{Limits}
use Rattle.table_spec.specs.File.{Table}
use Rattle.table_spec.specs.Reading.{WellFormed}
use Rattle.table_spec.proofs.Facts.{Fit, internals-fit, calls-fit, returns-fit}
use Rattle.tops_spec.specs.Tops.{top_words, live}
use Rattle.quotient_spec.specs.Quotient.{image}
use Rattle.records_spec.specs.Fates.{taken, fate, fates_behind, section_fates, fates_of}
use Rattle.records_spec.specs.Demands.{not_dead, whole_fates}
use Rattle.records_spec.proofs.Sections.{fates_same}

-- the images of two sections' records differ
abbrev Differ : List ℕ → List (List ℕ) → List (List ℕ) → Type 0
Differ m xs rs = (x r : List ℕ) → Memᴰ x xs → Memᴰ r rs → same (image m x) (image m r) ≡ false

module _ (alive : List ℕ → Bool) (m : List ℕ) where
  -- records after others
  fates_append : (e xs ys : List (List ℕ)) → fates_behind alive m e (xs ++ ys) ≡ fates_behind alive m e xs ++ fates_behind alive m (e ++ xs) ys
  unfolding fates_behind
  fates_append e [] ys = ap (λ k. fates_behind alive m k ys) (sym (append-nil e))
  fates_append e (x ∷ xs) ys =
      ap (λ k. fate alive m e x ∷ k)
      (fates_append (e ++ (x ∷ [])) xs ys ∙ ap (λ k. fates_behind alive m (e ++ (x ∷ [])) xs ++ fates_behind alive m k ys) (append_assoc e (x ∷ []) xs))

  and-false : (a b : Bool) → b ≡ false → (a && b) ≡ false
  and-false true b e = e
  and-false false b e = refl

  taken-past : (pre e : List (List ℕ)) (r : List ℕ) → ((x : List ℕ) → Memᴰ x pre → same (image m x) (image m r) ≡ false) → taken alive m (pre ++ e) r ≡ taken alive m e r
  unfolding taken
  taken-past [] e r h = refl
  taken-past (x ∷ xs) e r h = ap (λ k. k || taken alive m (xs ++ e) r) (and-false (alive x) _ (h x (Memᴰ.head refl))) ∙ taken-past xs e r (λ y k. h y (Memᴰ.tail k))

  fate-past : (pre e : List (List ℕ)) (r : List ℕ) → ((x : List ℕ) → Memᴰ x pre → same (image m x) (image m r) ≡ false) → fate alive m (pre ++ e) r ≡ fate alive m e r
  unfolding fate
  fate-past pre e r h = ap {A = Bool} (λ k. elim (alive r) as (λ _. ℕ) [ true ↦ elim k as (λ _. ℕ) [ true ↦ 1 | false ↦ 0 ] | false ↦ 2 ]) (taken-past pre e r h)

  -- records whose images differ from those of rs fold none of rs
  fates_past : (pre e rs : List (List ℕ)) → Differ m pre rs → fates_behind alive m (pre ++ e) rs ≡ fates_behind alive m e rs
  unfolding fates_behind
  fates_past pre e [] h = refl
  fates_past pre e (r ∷ rs) h =
      λ i. fate-past pre e r (λ x k. h x r k (Memᴰ.head refl)) i
      ∷ (ap (λ k. fates_behind alive m k rs) (append_assoc pre e (r ∷ [])) ∙ fates_past pre (e ++ (r ∷ [])) rs (λ x s k l. h x s k (Memᴰ.tail l))) i

  section_past : (pre rs : List (List ℕ)) → Differ m pre rs → fates_behind alive m pre rs ≡ section_fates alive m rs
  section_past pre rs h = ap (λ k. fates_behind alive m k rs) (sym (append-nil pre)) ∙ fates_past pre [] rs h

-- ---- records of two sections: their symbols are of different kinds

image-symbol : (m : List ℕ) (r : List ℕ) → 1 < length r → get_or (image m r) 1 0 ≡ get_or r 1 0
unfolding image
image-symbol m [] h = absurd (omega arith)
image-symbol m (p ∷ []) h = absurd (omega arith)
image-symbol m (p ∷ a ∷ qs) h = refl

differ : {t : Table} {k l v w : ℕ} {rs ss : List (List ℕ)} (m : List ℕ) → Fit t k v rs → Fit t l w ss → k ≢ l → 1 < v → 1 < w → Differ m rs ss
differ {t} m f g n a b x r i j = not_so _ (λ e.
    let q : get_or x 1 0 ≡ get_or r 1 0 = sym (image-symbol m x (omega (arith, f.wide x i))) ∙ ap (λ y. get_or y 1 0) (same_true _ _ e) ∙ image-symbol m r (omega (arith, g.wide r j)) in
    n (sym (f.symbol x i).1 ∙ ap (λ y. get_or t.symbols y 0) q ∙ (g.symbol r j).1))

-- ---- the whole file

module _ {L : Limits} {t : Table} (wf : WellFormed L t) (m : List ℕ) where
  -- only a return can be dead
  move_alive : (r : List ℕ) → length r ≡ 3 → not_dead t r ≡ true
  unfolding not_dead
  move_alive r e = rw e

  return_alive : (r : List ℕ) → length r ≡ 4 → not_dead t r ≡ live (top_words t) r
  unfolding not_dead
  return_alive r e = rw e

  -- "whose image an earlier one, also not dead, already has": an earlier record of the file or of the section
  pub whole_fates_lem : whole_fates t m ≡ fates_of t m
  unfolding whole_fates fates_of
  whole_fates_lem =
      fates_append (not_dead t) m [] t.internals (t.calls ++ t.returns)
      ∙ ap (λ k. section_fates (not_dead t) m t.internals ++ k) (fates_append (not_dead t) m t.internals t.calls t.returns)
      ∙ (λ i. internals i ++ (calls i ++ returns i))
    where
      internals : section_fates (not_dead t) m t.internals ≡ section_fates (λ r. true) m t.internals
      internals = fates_same (not_dead t) (λ r. true) m t.internals (λ r k. move_alive r ((internals-fit wf).wide r k))

      calls : fates_behind (not_dead t) m t.internals t.calls ≡ section_fates (λ r. true) m t.calls
      calls =
          section_past (not_dead t) m t.internals t.calls (differ m (internals-fit wf) (calls-fit wf) (λ z. omega (arith, z)) (omega arith) (omega arith))
          ∙ fates_same (not_dead t) (λ r. true) m t.calls (λ r k. move_alive r ((calls-fit wf).wide r k))

      moves : Differ m (t.internals ++ t.calls) t.returns
      moves x r i j = ⊎_elim
          (λ k. differ m (internals-fit wf) (returns-fit wf) (λ z. omega (arith, z)) (omega arith) (omega arith) x r k j)
          (λ k. differ m (calls-fit wf) (returns-fit wf) (λ z. omega (arith, z)) (omega arith) (omega arith) x r k j)
          (append_cases t.internals i)

      returns : fates_behind (not_dead t) m (t.internals ++ t.calls) t.returns ≡ section_fates (live (top_words t)) m t.returns
      returns =
          section_past (not_dead t) m (t.internals ++ t.calls) t.returns moves
          ∙ fates_same (not_dead t) (live (top_words t)) m t.returns (λ r k. return_alive r ((returns-fit wf).wide r k))
