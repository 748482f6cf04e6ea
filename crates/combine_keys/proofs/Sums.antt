-- The keys of the sum's records: those of the first, then those of the second, each with what its shifted states add. Assumes nothing.
use mathlib.Core.Path.{◌≡◌, refl, sym, ap, ◌∙◌, subst}
use mathlib.Core.Logic.{◌⊎◌, inl, inr, ◌≢◌}
use mathlib.Core.List.{List, [], ◌∷◌, ◌++◌, map, map-append, Memᴰ}
use Prim.Native.Nat.{ℕ, ◌+◌, ◌*◌, ◌<◌, ◌≤◌}
use native.Mathlib.Omega.{arith}
use lib.ListN.{length, get_or}
use borrow.Author.Tests.{eq-eqb, ne_eqb}
use Rattle.std.specs.Prelude.{Option, Some, None}
use Rattle.lists.specs.Lists.{concat_map}
use Rattle.limits.specs.Limits.{state_most}
use Rattle.table_spec.specs.File.{records}
use Rattle.table_spec.proofs.Bytes.{records-wide}
use Rattle.table_find.specs.Keys.{key_from, key}
use Rattle.table_write.specs.Keys.{keys_of}
use Rattle.table_index.specs.Index.{Lent}
use Rattle.combine_spec.specs.Combine.{renumbered, both_records}
use Rattle.combine_keys.specs.Adding.{Collected, Adds, shifted_keys}
use Rattle.combine_keys.specs.Factors.{offset, Small, Summands}
use Rattle.combine_keys.proofs.Adding.{none_held, adds_both, adds_less}

pub offset_three : {w : ℕ} (n : ℕ) → w ≡ 3 → n * 65537 ≡ offset w n
unfolding offset
offset_three {w} n e = sym (rw (eq-eqb w 3 e, offset))

pub offset_four : {w : ℕ} (n : ℕ) → w ≢ 3 → n * 16777473 ≡ offset w n
unfolding offset
offset_four {w} n e = sym (rw (ne_eqb w 3 e, offset))

-- ---- one record

-- a record of 3 or 4 bytes, taken apart
data Bytewise (w : ℕ) : List ℕ → Type 0 where
  three : (p a q : ℕ) → w ≡ 3 → Bytewise w (p ∷ a ∷ q ∷ [])
  four : (p a s q : ℕ) → w ≢ 3 → Bytewise w (p ∷ a ∷ s ∷ q ∷ [])

bytewise : (w : ℕ) (r : List ℕ) → (w ≡ 3) ⊎ (w ≡ 4) → length r ≡ w → Bytewise w r
bytewise w r h l = go r (both h) l
  where
    both : (w ≡ 3) ⊎ (w ≡ 4) → (3 ≤ w) × (w ≤ 4)
    both (inl e) = (omega arith, omega arith)
    both (inr e) = (omega arith, omega arith)

    go : (r : List ℕ) → (3 ≤ w) × (w ≤ 4) → length r ≡ w → Bytewise w r
    go [] k e = absurd (omega (arith, k.0))
    go (p ∷ []) k e = absurd (omega (arith, k.0))
    go (p ∷ a ∷ []) k e = absurd (omega (arith, k.0))
    go (p ∷ a ∷ q ∷ []) k e = three p a q (sym e)
    go (p ∷ a ∷ s ∷ q ∷ []) k e = four p a s q (λ d. omega arith)
    go (p ∷ a ∷ s ∷ q ∷ x ∷ xs) k e = absurd (omega (arith, k.1))

key-shifted : {w : ℕ} (n : ℕ) {r : List ℕ} → Bytewise w r → key r + offset w n ≡ key (renumbered (λ q. n + q) r)
unfolding key_from renumbered
key-shifted n (three p a q e) = omega (arith, offset_three n e)
key-shifted n (four p a s q e) = omega (arith, offset_four n e)

-- ---- a section's

firsts : (rs : List (List ℕ)) → concat_map (λ r. (key r + 0) ∷ []) rs ≡ map key rs
firsts [] = refl
firsts (r ∷ rs) = let e : key r + 0 ≡ key r = omega arith in λ i. e i ∷ firsts rs i

seconds :
    (w n : ℕ) → (w ≡ 3) ⊎ (w ≡ 4) → (rs : List (List ℕ)) → ((r : List ℕ) → Memᴰ r rs → length r ≡ w)
    → concat_map (λ r. (key r + offset w n) ∷ []) rs ≡ map key (map (renumbered (λ q. n + q)) rs)
seconds w n h [] l = refl
seconds w n h (r ∷ rs) l = λ i. key-shifted n (bytewise w r h (l r (Memᴰ.head refl))) i ∷ seconds w n h rs (λ s d. l s (Memᴰ.tail d)) i

module _ {w n : ℕ} {first second : List ℕ} (h : Summands w n first second) where
  pub width-within : (3 ≤ w) × (w ≤ 4)
  width-within = go h.width
    where
      go : (w ≡ 3) ⊎ (w ≡ 4) → (3 ≤ w) × (w ≤ 4)
      go (inl e) = (omega arith, omega arith)
      go (inr e) = (omega arith, omega arith)

  -- such a record's key, with what is added, is a number of 32 bits
  lent-small : {s : List ℕ} → Lent w state_most s → (by : ℕ) → by ≤ 671098920 → Small w by s
  unfolding key_from
  lent-small {s} k by m r d = go (bytewise w r h.width (records-wide w s r d)) (k.states r d 0 (λ z. omega (arith, z)) (omega (arith, width-within.0))) (k.states r d) (k.symbols r d)
    where
      go : {r : List ℕ} → Bytewise w r → get_or r 0 0 < state_most → ((i : ℕ) → i ≢ 1 → i < w → get_or r i 0 < state_most) → get_or r 1 0 < 64 → key r + by < 4294967296
      go (three p a q e) f g j = let z : q < 40 = g 2 (λ z. omega (arith, z)) (omega arith) in omega arith
      go (four p a s q e) f g j =
          let l = width-within in
          let y : s < 40 = g 2 (λ z. omega (arith, z)) (omega (arith, l.0)) in
          let z : q < 40 = g 3 (λ z. omega (arith, z)) (omega (arith, l.0, e)) in
          omega arith

  offset-few : offset w n ≤ 671098920
  offset-few = go h.width
    where
      go : (w ≡ 3) ⊎ (w ≡ 4) → offset w n ≤ 671098920
      go (inl e) = omega (arith, offset_three n e, h.few)
      go (inr e) = let d : w ≢ 3 = λ z. omega arith in omega (arith, offset_four n d, h.few)

  pub first_small : Small w 0 first
  first_small = lent-small h.first-lent 0 (omega arith)

  pub second-small : {by : ℕ} → by ≡ offset w n → Small w by second
  second-small {by} e = lent-small h.second-lent by (omega (arith, offset-few))

  sum_keys : {by : ℕ} → by ≡ offset w n → shifted_keys 0 w first ++ shifted_keys by w second ≡ keys_of (both_records n (records w first) (records w second))
  unfolding both_records shifted_keys
  sum_keys e =
      (λ i. firsts (records w first) i ++ (ap (λ z. shifted_keys z w second) e ∙ seconds w n h.width (records w second) (λ r d. records-wide w second r d)) i)
      ∙ sym (map-append key (records w first) (map (renumbered (λ q. n + q)) (records w second)))

  pub summed : {by : ℕ} {ks ks' ks'' : List ℕ} {k : ℕ} {r : Option ℕ} → by ≡ offset w n → length ks' ≡ length ks → Adds (shifted_keys 0 w first) ks 0 ks' (Some k) → Adds (shifted_keys by w second) ks' k ks'' r
      → Collected (length ks) (keys_of (both_records n (records w first) (records w second))) ks'' r
  summed {by} {ks} {ks''} {r = r} e l a b = subst (λ (xs : List ℕ). Collected (length ks) xs ks'' r) (sum_keys e) ((adds_both (shifted_keys 0 w first) (shifted_keys by w second) ks'' r l a b).each [] (none_held ks))

  pub first_full : {ks ks' : List ℕ} {r : Option ℕ} → r ≡ None → Adds (shifted_keys 0 w first) ks 0 ks' None → Collected (length ks) (keys_of (both_records n (records w first) (records w second))) ks' r
  first_full {ks} {ks'} o a = subst (λ (r : Option ℕ). Collected (length ks) (keys_of (both_records n (records w first) (records w second))) ks' r) (sym o) (subst (λ (xs : List ℕ). Collected (length ks) xs ks' None) (sum_keys refl) ((adds_less (shifted_keys 0 w first) (shifted_keys (offset w n) w second) ks' ks' a).each [] (none_held ks)))
