-- The possible record with a number: where the divisions of src/ find its bytes, and its key. Assumes nothing.
use Rattle.std.proofs.Common.{◌≡◌, ℕ, ◌+◌, ◌-◌, ◌*◌, ◌/◌, ◌%◌, ◌<◌, ◌≤◌, ◌⊎◌, List, [], ◌∷◌, length, get_or, replicate, sym, ap, ◌∙◌, subst, inl, inr, mod-lt, mul-le-mul, div-one, arith}
use native.Mathlib.Nat.{mod-one}
use Rattle.lists.specs.Lists.{upto}
use Rattle.lists.proofs.Members.{length-upto, get_d_upto}
use Rattle.table_find.specs.Keys.{key_from, key}
use Rattle.generate_spec.specs.Loads.{tuples, span, possible}
use Rattle.generate.specs.Draws.{Shape, tails, record_at}
use Rattle.generate_spec.proofs.Tuples.{length-tuples, Place, placed, tuple_at, length-span, get_d_span}

-- ---- how many

pub tails_move : (n : ℕ) → tails 3 n ≡ n
unfolding tails tuples
tails_move n = length-tuples [] (upto n) ∙ omega (arith, length-upto n)

pub tails-return : (n : ℕ) → tails 4 n ≡ n * n
unfolding tails
tails-return n = length-tuples (upto n ∷ []) (upto n) ∙ (λ i. length-upto n i * tails_move n i)

pub length-possible : (w n from k : ℕ) → length (possible w n from k) ≡ n * (k * tails w n)
unfolding possible tails
length-possible w n from k =
    length-tuples (span from k ∷ replicate (w - 2) (upto n)) (upto n)
    ∙ (λ i. length-upto n i * (length-tuples (replicate (w - 2) (upto n)) (span from k) ∙ ap (λ x. x * length (tuples (replicate (w - 2) (upto n)))) (length-span from k)) i)

pub square : {w n from k : ℕ} → Shape w n from k → n * n ≤ 1600
square {n = n} s = let h : n ≤ 40 = s.states in mul-le-mul h h

pub tails-few : {w n from k : ℕ} → Shape w n from k → tails w n ≤ 1600
tails-few {w} {n} s = go s.width
  where
    go : (w ≡ 3) ⊎ (w ≡ 4) → tails w n ≤ 1600
    go (inl e) = subst (λ (x : ℕ). tails x n ≤ 1600) (sym e) (omega (arith, tails_move n, s.states))
    go (inr e) = subst (λ (x : ℕ). tails x n ≤ 1600) (sym e) (omega (arith, tails-return n, square s))

pub group_few : {w n from k : ℕ} → Shape w n from k → k * tails w n ≤ 102400
group_few {k = k} s = let h : k ≤ 64 = omega (arith, s.symbols) in mul-le-mul h (tails-few s)

pub possible-few : {w n from k : ℕ} → Shape w n from k → n * (k * tails w n) ≤ 4096000
possible-few {n = n} s = let h : n ≤ 40 = s.states in mul-le-mul h (group_few s)

-- the same by what `tails_of` answers
pub record Sizes (w n from k t : ℕ) : Type 0 where
  pub tails-most : t ≤ 1600
  pub group_most : k * t ≤ 102400
  pub all_most : n * (k * t) ≤ 4096000
  pub all : n * (k * t) ≡ length (possible w n from k)

pub sizes_of : {w n from k t : ℕ} → Shape w n from k → t ≡ tails w n → Sizes w n from k t
sizes_of {w} {n} {from} {k} s e = subst (λ (t : ℕ). Sizes w n from k t) (sym e) (record { tails-most = tails-few s; group_most = group_few s; all_most = possible-few s; all = sym (length-possible w n from k) })

pub plain_shape : {w n from k : ℕ} → Shape w n from k → Shape w n 0 0
plain_shape s = record { width = s.width; states = s.states; symbols = omega arith }

-- ---- which

-- the divisions by which number i is taken apart
pub record Parts (n k t i : ℕ) : Type 0 where
  pub outer : Place n (k * t) i
  pub inner : Place k t (i % (k * t))

pub parts_of : {w n from k t : ℕ} (i : ℕ) → Sizes w n from k t → i < length (possible w n from k) → Parts n k t i
parts_of {w} {n} {from} {k} {t} i z h =
    let p = placed n (k * t) i (omega (arith, z.all)) in
    record { outer = p; inner = placed k t (i % (k * t)) p.into }

module _ (w n from k i : ℕ) (p : Parts n k (tails w n) i) where
  abbrev states : List (List ℕ)
  states = replicate (w - 2) (upto n)

  abbrev later : ℕ
  later = i % (k * tails w n)

  grouped : length (tuples (span from k ∷ states)) ≡ k * tails w n
  unfolding tails
  grouped = length-tuples states (span from k) ∙ ap (λ x. x * length (tuples states)) (length-span from k)

  inside : get_or (tuples (span from k ∷ states)) later [] ≡ (from + later / tails w n) ∷ get_or (tuples states) (later % tails w n) []
  unfolding tails
  inside =
      tuple_at (span from k) states later (subst (λ (x : ℕ). Place x (tails w n) later) (sym (length-span from k)) p.inner)
      ∙ ap (λ (x : ℕ). x ∷ get_or (tuples states) (later % tails w n) []) (get_d_span from k (later / tails w n) p.inner.whole)

  front : get_or (possible w n from k) i [] ≡ (i / (k * tails w n)) ∷ (from + later / tails w n) ∷ get_or (tuples states) (later % tails w n) []
  unfolding possible
  front =
      tuple_at (upto n) (span from k ∷ states) i (subst (λ (x : ℕ). Place x (length (tuples (span from k ∷ states))) i) (sym (length-upto n)) (subst (λ (x : ℕ). Place n x i) (sym grouped) p.outer))
      ∙ ap (λ (x : ℕ). get_or (upto n) (i / x) 0 ∷ get_or (tuples (span from k ∷ states)) (i % x) []) grouped
      ∙ (λ j. get_d_upto n (i / (k * tails w n)) 0 p.outer.whole j ∷ inside j)

one_state : (n t : ℕ) → t < n → get_or (tuples (upto n ∷ [])) t [] ≡ t ∷ []
unfolding tuples
one_state n t h =
    tuple_at (upto n) [] t (placed (length (upto n)) 1 t (omega (arith, length-upto n)))
    ∙ (λ j. (ap (λ (x : ℕ). get_or (upto n) x 0) (div-one t) ∙ get_d_upto n t 0 h) j ∷ ap (λ (x : ℕ). get_or ([] ∷ []) x []) (mod-one t) j)

two-states : (n t : ℕ) → t < n * n → get_or (tuples (upto n ∷ upto n ∷ [])) t [] ≡ (t / n) ∷ (t % n) ∷ []
unfolding tails
two-states n t h = go (placed n n t h)
  where
    go : Place n n t → get_or (tuples (upto n ∷ upto n ∷ [])) t [] ≡ (t / n) ∷ (t % n) ∷ []
    go q =
        let l : length (tuples (upto n ∷ [])) ≡ n = tails_move n in
        tuple_at (upto n) (upto n ∷ []) t (subst (λ (x : ℕ). Place x (length (tuples (upto n ∷ []))) t) (sym (length-upto n)) (subst (λ (x : ℕ). Place n x t) (sym l) q))
        ∙ ap (λ (x : ℕ). get_or (upto n) (t / x) 0 ∷ get_or (tuples (upto n ∷ [])) (t % x) []) l
        ∙ (λ j. get_d_upto n (t / n) 0 q.whole j ∷ one_state n (t % n) q.into j)

-- ---- its key

move_key : ℕ → ℕ → ℕ → ℕ → ℕ
move_key from k i t = (i / (k * t) * 256 + (from + i % (k * t) / t)) * 256 + i % (k * t) % t

return_key : ℕ → ℕ → ℕ → ℕ → ℕ → ℕ
return_key n from k i t = ((i / (k * t) * 256 + (from + i % (k * t) / t)) * 256 + i % (k * t) % t / n) * 256 + i % (k * t) % t % n

move_key_at : (n from k i : ℕ) → Parts n k (tails 3 n) i → move_key from k i (tails 3 n) ≡ record_at (possible 3 n from k) i
unfolding record_at key_from move_key
move_key_at n from k i p =
    let h : i % (k * tails 3 n) % tails 3 n < n = omega (arith, mod-lt (i % (k * tails 3 n)) p.inner.some, tails_move n) in
    sym (ap key (front 3 n from k i p ∙ ap (λ (r : List ℕ). (i / (k * tails 3 n)) ∷ (from + i % (k * tails 3 n) / tails 3 n) ∷ r) (one_state n _ h)) ∙ omega arith)

return-key-at : (n from k i : ℕ) → Parts n k (tails 4 n) i → return_key n from k i (tails 4 n) ≡ record_at (possible 4 n from k) i
unfolding record_at key_from return_key
return-key-at n from k i p =
    let h : i % (k * tails 4 n) % tails 4 n < n * n = omega (arith, mod-lt (i % (k * tails 4 n)) p.inner.some, tails-return n) in
    sym (ap key (front 4 n from k i p ∙ ap (λ (r : List ℕ). (i / (k * tails 4 n)) ∷ (from + i % (k * tails 4 n) / tails 4 n) ∷ r) (two-states n _ h)) ∙ omega arith)

module _ {w n k t i : ℕ} (from : ℕ) (e : t ≡ tails w n) (p : Parts n k t i) where
  pub key_of_move : w ≡ 3 → (i / (k * t) * 256 + (from + i % (k * t) / t)) * 256 + i % (k * t) % t ≡ record_at (possible w n from k) i
  unfolding move_key
  key_of_move f = let d = e ∙ ap (λ v. tails v n) f in ap (move_key from k i) d ∙ move_key_at n from k i (subst (λ (x : ℕ). Parts n k x i) d p) ∙ ap (λ v. record_at (possible v n from k) i) (sym f)

  pub key_of_return : w ≡ 4 → ((i / (k * t) * 256 + (from + i % (k * t) / t)) * 256 + i % (k * t) % t / n) * 256 + i % (k * t) % t % n ≡ record_at (possible w n from k) i
  unfolding return_key
  key_of_return f = let d = e ∙ ap (λ v. tails v n) f in ap (return_key n from k i) d ∙ return-key-at n from k i (subst (λ (x : ℕ). Parts n k x i) d p) ∙ ap (λ v. record_at (possible v n from k) i) (sym f)

-- a width that is not 3
pub width_four : {w n from k : ℕ} → Shape w n from k → (w ≡ 3 → ⊥) → w ≡ 4
width_four {w} s h = go s.width
  where
    go : (w ≡ 3) ⊎ (w ≡ 4) → w ≡ 4
    go (inl e) = absurd (h e)
    go (inr e) = e

-- the last two states of a return
pub record Last (n t x : ℕ) : Type 0 where
  pub some : 0 < n
  pub stack : x / n < n
  pub target : x % n < n

pub last_of : {w n k t i : ℕ} → t ≡ tails w n → w ≡ 4 → Parts n k t i → Last n t (i % (k * t) % t)
last_of {w} {n} {k} {t} {i} e f p =
    let h : i % (k * t) % t < n * n = omega (arith, mod-lt (i % (k * t)) p.inner.some, e ∙ ap (λ v. tails v n) f ∙ tails-return n) in
    let q = placed n n (i % (k * t) % t) h in record { some = q.some; stack = q.whole; target = q.into }
