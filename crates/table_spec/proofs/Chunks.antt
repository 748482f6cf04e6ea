-- The records of a section as `chunks_exact` hands them out: what is left is a record and the rest, and at the end no record is left. Assumes nothing.
use mathlib.Core.Path.{◌≡◌, ◌∙◌, ap, sym}
use mathlib.Core.List.{List, [], ◌∷◌, ◌++◌}
use Prim.Native.Nat.{ℕ, suc, ◌+◌, ◌/◌, ◌<◌}
use native.Mathlib.Nat.{add-div_right, div-eq_of_lt}
use native.Mathlib.Numerals.{add-one}
use native.Mathlib.Omega.{arith}
use lib.ListN.{length, take, drop, length-append}
use Rattle.std.proofs.Math.Seq.{take-append_seam, drop-append_seam}
use Rattle.lists.specs.Lists.{parts}
use Rattle.table_spec.specs.File.{records}

-- a record is taken from the front
pub chunk_on : {w : ℕ} (s x r : List ℕ) → 0 < w → s ≡ x ++ r → length x ≡ w → records w s ≡ x ∷ records w r
unfolding records parts
chunk_on {w} s x r p e h =
    let l : length (x ++ r) ≡ length r + w = omega (arith, length-append x r) in
    let k : length s / w ≡ suc (length r / w) = ap (λ l. length l / w) e ∙ ap (λ n. n / w) l ∙ add-div_right (length r) p ∙ add-one _ in
    let t : take w s ≡ x = ap (take w) e ∙ ap (λ n. take n (x ++ r)) (sym h) ∙ take-append_seam x r in
    let d : drop w s ≡ r = ap (drop w) e ∙ ap (λ n. drop n (x ++ r)) (sym h) ∙ drop-append_seam x r in
    ap (λ n. parts n w s) k ∙ ap (λ y. y ∷ parts (length r / w) w (drop w s)) t ∙ ap (λ y. x ∷ parts (length r / w) w y) d

-- less than a record is left
pub chunk_end : {w : ℕ} (s : List ℕ) → length s < w → records w s ≡ []
unfolding records parts
chunk_end {w} s h = ap (λ k. parts k w s) (div-eq_of_lt h)

-- ---- a loop over the records of a section: its answer is that over the records that are left

pub record Left {A : Type 0} (answer : A) (f : List (List ℕ) → A) (w n : ℕ) (r : List ℕ) : Type 0 where
  pub can_next : 0 < n
  pub width : n ≡ w
  pub meets : answer ≡ f (records w r)

module _ {A : Type 0} {a : A} {f : List (List ℕ) → A} {w n : ℕ} {r : List ℕ} (i : Left a f w n r) where
  -- a record is taken
  pub taken : (x t : List ℕ) → (r ≡ x ++ t) × (length x ≡ n) → a ≡ f (x ∷ records w t)
  taken x t e = i.meets ∙ ap f (chunk_on r x t (omega (arith, i)) e.0 (e.1 ∙ i.width))

  -- and the others decide
  pub on : {g : List (List ℕ) → A} {m : ℕ} (x t : List ℕ) → m ≡ n → (r ≡ x ++ t) × (length x ≡ n) → f (x ∷ records w t) ≡ g (records w t) → Left a g w m t
  on x t s e h = record { can_next = omega (arith, i); width = s ∙ i.width; meets = taken x t e ∙ h }

  -- no record is left
  pub ended : length r < n → a ≡ f []
  ended h = i.meets ∙ ap f (chunk_end r (omega (arith, i)))
