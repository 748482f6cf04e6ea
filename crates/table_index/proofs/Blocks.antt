-- The block of a state and a symbol: the records that start with them stand one after the other, from one entry of the index to the next. Assumes nothing.
use mathlib.Core.Path.{◌≡◌, refl, sym, ap, ◌∙◌, subst}
use mathlib.Core.Bool.{Bool, true, false, ◌&&◌, true≢false}
use mathlib.Core.List.{List, [], ◌∷◌, Memᴰ}
use Prim.Native.Nat.{ℕ, zero, suc, ◌+◌, ◌*◌, ◌-◌, ◌/◌, ◌<◌, ◌≤◌}
use native.Mathlib.Omega.{arith}
use native.Mathlib.Nat.{mul-le-mul_right, div-mul-le_self, add-mul}
use native.Mathlib.Decide.{dec_lt}
use lib.ListN.{length, get_or, take, drop}
use lib.Dec.{eqb}
use borrow.Author.Tests.{eq-eqb, eqb-true}
use Rattle.lists.specs.Lists.{filter, same}
use Rattle.lists.proofs.Members.{and-true, and_of, not_so, get_d_mem, filter-mem}
use Rattle.limits.specs.Limits.{state_most, symbol_most}
use Rattle.table_spec.specs.File.{records}
use Rattle.table_spec.specs.Reading.{ascend}
use Rattle.table_spec.proofs.Bytes.{records-wide, length-records}
use Rattle.table_spec.proofs.Order.{ascend-behind, ascend-rest, ascend-cons}
use Rattle.table_find.specs.Spans.{starts_with}
use Rattle.table_find.proofs.Spanning.{span-records}
use Rattle.table_index.specs.Index.{Lent, place_of, places, Begins, Indexed, Placed}
use Rattle.table_index.proofs.Index.{symbol-small}

-- ---- what is kept of a list where a run of its elements passes and no other does

module _ {A : Type 0} (f : A → Bool) (d : A) where
  filter_none : (xs : List A) → ((k : ℕ) → k < length xs → f (get_or xs k d) ≡ false) → filter f xs ≡ []
  unfolding filter
  filter_none [] h = refl
  filter_none (x ∷ xs) h = let e : f x ≡ false = h 0 (omega arith) in rw (e, filter) (filter_none xs (λ k l. h (suc k) (omega arith)))

  filter-first : (m : ℕ) (xs : List A) → m ≤ length xs → ((k : ℕ) → k < m → f (get_or xs k d) ≡ true) → ((k : ℕ) → m ≤ k → k < length xs → f (get_or xs k d) ≡ false) → filter f xs ≡ take m xs
  unfolding filter
  filter-first zero xs l h n = filter_none xs (λ k a. n k (omega arith) a)
  filter-first (suc m) [] l h n = absurd (omega arith)
  filter-first (suc m) (x ∷ xs) l h n =
      let e : f x ≡ true = h 0 (omega arith) in
      rw (e, filter) (ap (λ ys. x ∷ ys) (filter-first m xs (omega arith) (λ k a. h (suc k) (omega arith)) (λ k a b. n (suc k) (omega arith) (omega arith))))

  pub filter-run : (i m : ℕ) (xs : List A) → i + m ≤ length xs → ((k : ℕ) → k < i → f (get_or xs k d) ≡ false) → ((k : ℕ) → i ≤ k → k < i + m → f (get_or xs k d) ≡ true)
      → ((k : ℕ) → i + m ≤ k → k < length xs → f (get_or xs k d) ≡ false) → filter f xs ≡ take m (drop i xs)
  unfolding filter
  filter-run zero m xs l a b c = filter-first m xs (omega arith) (λ k p. b k (omega arith) (omega arith)) (λ k p q. c k (omega arith) q)
  filter-run (suc i) m [] l a b c = absurd (omega arith)
  filter-run (suc i) m (x ∷ xs) l a b c =
      let e : f x ≡ false = a 0 (omega arith) in
      rw (e, filter) (filter-run i m xs (omega arith) (λ k p. a (suc k) (omega arith)) (λ k p q. b (suc k) (omega arith) (omega arith)) (λ k p q. c (suc k) (omega arith) (omega arith)))

-- ---- a record that starts with a state and a symbol

starts-two : (q a : ℕ) (r : List ℕ) → 2 ≤ length r → get_or r 0 0 ≡ q → get_or r 1 0 ≡ a → starts_with (q ∷ a ∷ []) r ≡ true
unfolding starts_with same
starts-two q a [] l e f = absurd (omega arith)
starts-two q a (x ∷ []) l e f = absurd (omega arith)
starts-two q a (x ∷ y ∷ r) l e f = rw (eq-eqb q x (sym e), eq-eqb a y (sym f))

two-start : (q a : ℕ) (r : List ℕ) → 2 ≤ length r → starts_with (q ∷ a ∷ []) r ≡ true → (get_or r 0 0 ≡ q) × (get_or r 1 0 ≡ a)
unfolding starts_with same
two-start q a [] l e = absurd (omega arith)
two-start q a (x ∷ []) l e = absurd (omega arith)
two-start q a (x ∷ y ∷ r) l e =
    let p = and-true (eqb q x) (same (a ∷ []) (y ∷ [])) e in
    let o = and-true (eqb a y) (same [] []) p.1 in
    (sym (eqb-true q x p.0), sym (eqb-true a y o.0))

-- what starts with three starts with the first two
pub starts_shorter : (q a u : ℕ) (r : List ℕ) → starts_with (q ∷ a ∷ u ∷ []) r ≡ true → starts_with (q ∷ a ∷ []) r ≡ true
unfolding starts_with same
starts_shorter q a u [] e = absurd (true≢false (sym e))
starts_shorter q a u (x ∷ []) e = absurd (true≢false (sym (and-true (eqb q x) false e).1))
starts_shorter q a u (x ∷ y ∷ []) e = absurd (true≢false (sym (and-true (eqb a y) false (and-true (eqb q x) (eqb a y && false) e).1).1))
starts_shorter q a u (x ∷ y ∷ z ∷ r) e =
    let p = and-true (eqb q x) (same (a ∷ u ∷ []) (y ∷ z ∷ [])) e in
    and_of p.0 (and_of (and-true (eqb a y) (same (u ∷ []) (z ∷ [])) p.1).0 refl)

pub filter-within : (f g : List ℕ → Bool) (rs : List (List ℕ)) → ((r : List ℕ) → f r ≡ true → g r ≡ true) → filter f (filter g rs) ≡ filter f rs
unfolding filter
filter-within f g [] h = refl
filter-within f g (r ∷ rs) h = go (f r) (g r) refl refl (filter-within f g rs h)
  where
    go : (t v : Bool) → f r ≡ t → g r ≡ v → filter f (filter g rs) ≡ filter f rs → filter f (filter g (r ∷ rs)) ≡ filter f (r ∷ rs)
    go true true a b ih = rw (b, filter, a, filter) (ap (λ ss. r ∷ ss) ih)
    go true false a b ih = absurd (true≢false (sym (h r a) ∙ b))
    go false true a b ih = rw (b, filter, a, filter) ih
    go false false a b ih = rw (b, filter, a, filter) ih

-- ---- entries of the index

-- places in their order begin in their order
begins_rise : {rs : List (List ℕ)} {y z i j : ℕ} → Begins rs y i → Begins rs z j → y ≤ z → i ≤ j
begins_rise {rs} {y} {z} {i} {j} b c l = go (dec_lt j i)
  where
    go : Dec (j < i) → i ≤ j
    go (yes d) = absurd (omega (arith, b.before j d, c.behind j (omega arith) (omega (arith, d, b.within))))
    go (no d) = omega arith

module _ {n : ℕ} {rs : List (List ℕ)} {starts : List ℕ} (x : Indexed n rs starts) where
  pub begin_rising : (y z : ℕ) → y ≤ z → z ≤ places n → get_or starts y 0 ≤ get_or starts z 0
  begin_rising y z l m = begins_rise (x.each y (omega arith)) (x.each z m) l

  pub placed : {q a : ℕ} → q < n → a < symbol_most → Placed rs starts q a
  placed {q} {a} l m = record { here = x.each (q * symbol_most + a) (omega arith); next = x.each (q * symbol_most + a + 1) (omega arith) }

-- the same index, by another name of its states
pub indexed_by : {m n : ℕ} {rs : List (List ℕ)} {starts : List ℕ} → m ≡ n → Indexed m rs starts → Indexed n rs starts
indexed_by {rs = rs} {starts = starts} e x = subst (λ (k : ℕ). Indexed k rs starts) e x

-- an entry as the code reads it
pub begins_at : (rs : List (List ℕ)) (starts : List ℕ) {x y i : ℕ} → Begins rs x (get_or starts x 0) → y ≡ x → i ≡ get_or starts y 0 → Begins rs x i
begins_at rs starts {x} b e f = subst (λ (k : ℕ). Begins rs x k) (sym (f ∙ ap (λ (y : ℕ). get_or starts y 0) e)) b

-- the block of a state and a symbol, from index i to index j
pub record Block (w : ℕ) (s : List ℕ) (q a i j : ℕ) : Type 0 where
  pub wide : 3 ≤ w
  pub lent : Lent w state_most s
  pub symbol : a < symbol_most
  pub low : Begins (records w s) (q * symbol_most + a) i
  pub high : Begins (records w s) (q * symbol_most + a + 1) j

module _ {w : ℕ} {s : List ℕ} {q a i j : ℕ} (b : Block w s q a i j) where
  ordered : i ≤ j
  ordered = begins_rise b.low b.high (omega arith)

  within : j ≤ length s / w
  within = omega (arith, b.high.within, length-records w s)

  pub block_starts : i * w ≤ j * w
  block_starts = mul-le-mul_right w ordered

  pub block_ends : j * w ≤ length s
  block_ends = omega (arith, mul-le-mul_right w within, div-mul-le_self (length s) w)

  abbrev first : List ℕ → Bool
  first = starts_with (q ∷ a ∷ [])

  long : (k : ℕ) → k < length (records w s) → 2 ≤ length (get_or (records w s) k [])
  long k l = omega (arith, b.wide, records-wide w s _ (get_d_mem (records w s) k [] l))

  -- the number of a record's place tells whether it starts with the two
  starts-here : (k : ℕ) → k < length (records w s) → place_of (get_or (records w s) k []) ≡ q * symbol_most + a → first (get_or (records w s) k []) ≡ true
  starts-here k l e =
      let m = symbol-small b.lent k l in
      starts-two q a (get_or (records w s) k []) (long k l) (omega (arith, b.symbol)) (omega (arith, b.symbol))

  starts_elsewhere : (k : ℕ) → k < length (records w s) → (place_of (get_or (records w s) k []) ≡ q * symbol_most + a → ⊥) → first (get_or (records w s) k []) ≡ false
  starts_elsewhere k l n = not_so _ (λ e. let p = two-start q a (get_or (records w s) k []) (long k l) e in n (omega (arith, p.0, p.1)))

  pub block_records : records w (take (j * w - i * w) (drop (i * w) s)) ≡ filter (starts_with (q ∷ a ∷ [])) (records w s)
  block_records =
      let m = j - i in
      let f : j ≡ i + m = omega (arith, ordered) in
      let e : j * w - i * w ≡ m * w = ap (λ v. v * w - i * w) f ∙ omega (arith, add-mul i m w) in
      let n : j ≤ length (records w s) = omega (arith, within, length-records w s) in
      ap (λ v. records w (take v (drop (i * w) s))) e
      ∙ span-records w s i m (omega (arith, b.wide)) (omega (arith, within))
      ∙ sym (filter-run first [] i m (records w s) (omega arith)
      (λ k l. starts_elsewhere k (omega (arith, ordered)) (λ o. omega (arith, b.low.before k l)))
      (λ k l o. let r : k < length (records w s) = omega arith in starts-here k r (omega (arith, b.low.behind k l r, b.high.before k (omega arith))))
      (λ k l o. starts_elsewhere k o (λ p. omega (arith, b.high.behind k (omega arith) o))))

-- ---- records kept are lent as well

ascend-filter : (f : List ℕ → Bool) (rs : List (List ℕ)) → ascend rs ≡ true → ascend (filter f rs) ≡ true
unfolding filter ascend
ascend-filter f [] a = refl
ascend-filter f (r ∷ rs) a = go (f r) refl (ascend-filter f rs (ascend-rest r rs a))
  where
    go : (t : Bool) → f r ≡ t → ascend (filter f rs) ≡ true → ascend (filter f (r ∷ rs)) ≡ true
    go true e ih = rw (e, filter) (ascend-cons r (filter f rs) (λ s m. ascend-behind r rs a s (filter-mem f rs s m).0) ih)
    go false e ih = rw (e, filter) ih

filter-short : (f : List ℕ → Bool) (rs : List (List ℕ)) → length (filter f rs) ≤ length rs
unfolding filter
filter-short f [] = omega arith
filter-short f (r ∷ rs) = go (f r) (filter-short f rs)
  where
    go : (t : Bool) → length (filter f rs) ≤ length rs → length {A = List ℕ} (elim t [ true ↦ r ∷ filter f rs | false ↦ filter f rs ]) ≤ suc (length rs)
    go true ih = omega arith
    go false ih = omega arith

pub lent-kept : {w n : ℕ} {s : List ℕ} (part : List ℕ) (f : List ℕ → Bool) → Lent w n s → records w part ≡ filter f (records w s) → Lent w n part
lent-kept {w} {n} {s} part f h e =
    record {
      in_order = ap ascend e ∙ ascend-filter f (records w s) h.in_order;
      few = omega (arith, ap length e, filter-short f (records w s), h.few);
      states = λ r m. h.states r (among r m);
      symbols = λ r m. h.symbols r (among r m);
    }
  where
    among : (r : List ℕ) → Memᴰ r (records w part) → Memᴰ r (records w s)
    among r m = (filter-mem f (records w s) r (subst (λ xs. Memᴰ r xs) e m)).0
