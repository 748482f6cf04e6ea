-- The records that start with a key are found by halves and passed one by one: what is still to come at each turn, and the part of the section
-- that they are. One law for every width. Assumes nothing.
use mathlib.Core.Path.{◌≡◌, refl, sym, ap, ◌∙◌, subst}
use mathlib.Core.Bool.{Bool, true, false}
use mathlib.Core.List.{List, [], ◌∷◌}
use Prim.Native.Nat.{ℕ, zero, suc, ◌+◌, ◌-◌, ◌*◌, ◌/◌, ◌^◌, ◌≤◌, ◌<◌, suc-le-suc, zero-le}
use native.Mathlib.Omega.{arith}
use native.Mathlib.Decide.{dec_lt}
use native.Mathlib.Numerals.{add-one}
use native.Mathlib.Nat.{zero-add, suc-add, suc-mul, zero-mul, mul-le-mul_right, div-mul-le_self, mul-div_cancel, add-mul, mul-one}
use lib.ListN.{length, get_or, take, drop, length-drop, drop_of_length-le}
use lib.Seq.{take-nil, drop-cons, drop-drop, get_or-drop, length-take-le, take-take}
use lib.Dec.{eqb, ltb}
use borrow.Author.Tests.{lt-ltb, le-ltb, eq-eqb, ne_eqb}
use Rattle.lists.specs.Lists.{filter, parts}
use Rattle.lists.proofs.Members.{get_d_mem}
use Rattle.lists.proofs.Parts.{get_d_parts}
use Rattle.table_spec.specs.File.{records}
use Rattle.table_spec.specs.Reading.{before, ascend}
use Rattle.table_spec.proofs.Bytes.{Bytes, length-records}
use Rattle.table_spec.proofs.Order.{before-transitive, ascend-behind, ascend-rest}
use Rattle.table_find.specs.Spans.{first_at, starts_with, leading}
use Rattle.table_find.specs.Keys.{key, Keyed}
use Rattle.table_find.proofs.Keys.{part_bytes, but_last, before-key, starts-key}
use Rattle.table_find.proofs.Spans.{kept-span}

-- ---- record i

pub record_inside : (w : ℕ) (s : List ℕ) (i : ℕ) → i < length s / w → i * w + w ≤ length s
record_inside w s i h = omega (arith, mul-le-mul_right w h, suc-mul i w, div-mul-le_self (length s) w)

record_at_lem : (w : ℕ) (s : List ℕ) (i : ℕ) → i < length s / w → get_or (records w s) i [] ≡ take w (drop (i * w) s)
unfolding records
record_at_lem w s i h = get_d_parts (length s / w) w s i h

-- its number beside the key's tells whether it stands before the key and whether it starts with it
module _ (s : List ℕ) {w : ℕ} {k : List ℕ} {n : ℕ} (b : Bytes s) (d : Keyed w k n) {i : ℕ} (h : i < length s / w) where
  inside : w ≤ length (drop (i * w) s)
  inside = omega (arith, length-drop (i * w) s, record_inside w s i h)

  long : length (get_or (records w s) i []) ≡ w
  long = ap length (record_at_lem w s i h) ∙ length-take-le w (drop (i * w) s) inside

  bytes : Bytes (get_or (records w s) i [])
  bytes = subst Bytes (sym (record_at_lem w s i h)) (part_bytes s b (i * w) w)

  behind : Bytes (drop (i * w) s)
  behind j = subst (λ x. x < 256) (sym (get_or-drop (i * w) s j 0)) (b (i * w + j))

  -- the number of as many bytes as the key has
  abbrev first : ℕ
  first = key (take (length k) (drop (i * w) s))

  as_lent : key (take (length k) (get_or (records w s) i [])) ≡ first
  as_lent = ap (λ r. key (take (length k) r)) (record_at_lem w s i h) ∙ ap key (take-take (length k) w (drop (i * w) s) (omega (arith, d.long)))

  -- the last byte of four changes no order
  even : {m l : ℕ} → m ≡ key (take (2 * (w - 2)) (drop (i * w) s)) → l ≡ n * 256 ^ (w - 3) → ltb first n ≡ ltb m l
  even {m} {l} e f = go (dec_lt 3 w)
    where
      go : Dec (3 < w) → ltb first n ≡ ltb m l
      go (no p) =
          let a : 2 * (w - 2) ≡ length k = omega (arith, d) in
          let c : w - 3 ≡ 0 = omega arith in
          λ j. ltb (sym (e ∙ ap (λ v. key (take v (drop (i * w) s))) a) j) (sym (f ∙ ap (λ v. n * 256 ^ v) c ∙ mul-one n) j)
      go (yes p) =
          let a : 2 * (w - 2) ≡ suc (length k) = omega (arith, d) in
          let c : w - 3 ≡ 1 = omega (arith, d) in
          let x : m / 256 ≡ first = ap (λ v. v / 256) (e ∙ ap (λ v. key (take v (drop (i * w) s))) a) ∙ but_last (length k) (drop (i * w) s) behind (omega (arith, inside, d)) in
          let y : l ≡ n * 256 = f ∙ ap (λ v. n * 256 ^ v) c in
          four (dec_lt first n) x y
        where
          four : Dec (first < n) → m / 256 ≡ first → l ≡ n * 256 → ltb first n ≡ ltb m l
          four (yes q) x y = lt-ltb first n q ∙ sym (lt-ltb m l (omega arith))
          four (no q) x y = le-ltb first n (omega arith) ∙ sym (le-ltb m l (omega arith))

  pub stands : {m l : ℕ} → m ≡ key (take (2 * (w - 2)) (drop (i * w) s)) → l ≡ n * 256 ^ (w - 3) → before (get_or (records w s) i []) k ≡ ltb m l
  stands e f = before-key (get_or (records w s) i []) k (omega (arith, long, d.long)) bytes d.bytes ∙ (λ j. ltb (as_lent j) (sym d.number j)) ∙ even e f

  pub starts : {m : ℕ} → m ≡ key (take w (drop (i * w) s)) / 256 → starts_with k (get_or (records w s) i []) ≡ eqb m n
  starts e =
      let l : w ≡ suc (length k) = omega (arith, d.long) in
      starts-key (get_or (records w s) i []) k (omega (arith, long, d.long)) bytes d.bytes
      ∙ λ j. eqb ((as_lent ∙ sym (e ∙ ap (λ v. key (take v (drop (i * w) s)) / 256) l ∙ but_last (length k) (drop (i * w) s) behind (omega (arith, inside)))) j) (sym d.number j)

-- ---- the first record that does not stand before the key

first-within : (rs : List (List ℕ)) (key : List ℕ) → first_at rs key ≤ length rs
unfolding first_at
first-within [] key = zero-le
first-within (r ∷ rs) key = go (before r key) (first-within rs key)
  where
    go : (t : Bool) → first_at rs key ≤ length rs → elim t as (λ _. ℕ) [ true ↦ suc (first_at rs key) | false ↦ 0 ] ≤ suc (length rs)
    go true h = suc-le-suc h
    go false h = zero-le

past_it : (rs : List (List ℕ)) (key : List ℕ) (i : ℕ) → ascend rs ≡ true → i < length rs → before (get_or rs i []) key ≡ true → i < first_at rs key
unfolding first_at ascend
past_it [] key i a h e = absurd (omega arith)
past_it (r ∷ rs) key zero a h e = rw (e, first_at) (omega arith)
past_it (r ∷ rs) key (suc i) a h e =
    let f : before r key ≡ true = before-transitive r (get_or rs i []) key (ascend-behind r rs a (get_or rs i []) (get_d_mem rs i [] (omega arith))) e in
    let g = past_it rs key i (ascend-rest r rs a) (omega arith) e in
    rw (f, first_at) (omega arith)

not-past : (rs : List (List ℕ)) (key : List ℕ) (i : ℕ) → i < length rs → before (get_or rs i []) key ≡ false → first_at rs key ≤ i
unfolding first_at
not-past [] key i h e = absurd (omega arith)
not-past (r ∷ rs) key zero h e = rw (e, first_at) zero-le
not-past (r ∷ rs) key (suc i) h e = go (before r key) (not-past rs key i (omega arith) e)
  where
    go : (t : Bool) → first_at rs key ≤ i → elim t as (λ _. ℕ) [ true ↦ suc (first_at rs key) | false ↦ 0 ] ≤ suc i
    go true k = suc-le-suc k
    go false k = zero-le

-- it stands between the two ends, for the key that a number is of
pub record Halving (w : ℕ) (s : List ℕ) (wanted low high : ℕ) : Type 0 where
  pub ordered : low ≤ high
  pub within : high ≤ length s / w
  pub above : (k : List ℕ) → Keyed w k wanted → ascend (records w s) ≡ true → low ≤ first_at (records w s) k
  pub below : (k : List ℕ) → Keyed w k wanted → first_at (records w s) k ≤ high

pub halving : (w : ℕ) (s : List ℕ) {wanted : ℕ} → Halving w s wanted 0 (length s / w)
halving w s = record { ordered = omega arith; within = omega arith; above = λ k d a. zero-le; below = λ k d. omega (arith, first-within (records w s) k, length-records w s) }

module _ {w : ℕ} {s : List ℕ} {wanted low high middle m lowest : ℕ} (b : Bytes s) (i : Halving w s wanted low high) (l : low ≤ middle) (h : middle < high) (e : m ≡ key (take (2 * (w - 2)) (drop (middle * w) s))) (f : lowest ≡ wanted * 256 ^ (w - 3)) where
  there : middle < length s / w
  there = omega (arith, i)

  counted : middle < length (records w s)
  counted = omega (arith, there, length-records w s)

  pub upper_half : m < lowest → Halving w s wanted (middle + 1) high
  upper_half t = record {
    ordered = omega arith;
    within = i.within;
    above = λ k d a. let g = past_it (records w s) k middle a counted (stands s b d there e f ∙ lt-ltb _ _ t) in omega arith;
    below = i.below;
  }

  pub lower_half : lowest ≤ m → Halving w s wanted low middle
  lower_half t = record {
    ordered = l;
    within = omega (arith, i);
    above = i.above;
    below = λ k d. not-past (records w s) k middle counted (stands s b d there e f ∙ le-ltb _ _ t);
  }

pub halved : {w : ℕ} {s : List ℕ} {wanted low high : ℕ} → Halving w s wanted low high → high ≤ low → (k : List ℕ) → Keyed w k wanted → ascend (records w s) ≡ true → low ≡ first_at (records w s) k
halved i h k d a = let g = i.above k d a in let f = i.below k d in omega (arith, i)

-- ---- those that start with the key

pub record Passing (w : ℕ) (s : List ℕ) (wanted from i : ℕ) : Type 0 where
  pub ordered : from ≤ i
  pub within : i ≤ length s / w
  pub meets : (k : List ℕ) → Keyed w k wanted → from + leading (drop from (records w s)) k ≡ i + leading (drop i (records w s)) k

pub passing : (w : ℕ) (s : List ℕ) {wanted from : ℕ} → from ≤ length s / w → Passing w s wanted from from
passing w s h = record { ordered = omega arith; within = h; meets = λ k d. refl }

here : (rs : List (List ℕ)) (k : List ℕ) (i : ℕ) {v : Bool} → i < length rs → starts_with k (get_or rs i []) ≡ v → leading (drop i rs) k ≡ elim v [ true ↦ suc (leading (drop (i + 1) rs) k) | false ↦ 0 ]
unfolding leading
here rs k i {v} h t =
    ap (λ x. leading x k) (drop-cons rs i [] h)
    ∙ (λ j. elim (t j) as (λ _. ℕ) [ true ↦ suc (leading (drop (sym (add-one i) j) rs) k) | false ↦ 0 ])

module _ {w : ℕ} {s : List ℕ} {wanted from i : ℕ} (p : Passing w s wanted from i) where
  module _ {m : ℕ} (b : Bytes s) (h : i < length s / w) (e : m ≡ key (take w (drop (i * w) s)) / 256) where
    in_records : i < length (records w s)
    in_records = omega (arith, length-records w s)

    pub pass_on : m ≡ wanted → Passing w s wanted from (i + 1)
    pass_on t = record {
      ordered = omega (arith, p);
      within = omega arith;
      meets = λ k d. p.meets k d ∙ (let g = here (records w s) k i in_records (starts s b d h e ∙ eq-eqb m wanted t) in omega arith);
    }

    pub pass_end : (m ≡ wanted → ⊥) → (k : List ℕ) → Keyed w k wanted → i ≡ from + leading (drop from (records w s)) k
    pass_end t k d = let g = here (records w s) k i in_records (starts s b d h e ∙ ne_eqb m wanted t) in omega (arith, p.meets k d)

  pub passed-all : length s / w ≤ i → (k : List ℕ) → Keyed w k wanted → length s / w ≡ from + leading (drop from (records w s)) k
  unfolding leading
  passed-all h k d = let g = ap (λ x. leading x k) (drop_of_length-le (records w s) {i = i} (omega (arith, length-records w s))) in omega (arith, p.meets k d)

-- ---- the part that they are

leading-within : (rs : List (List ℕ)) (key : List ℕ) → leading rs key ≤ length rs
unfolding leading
leading-within [] key = zero-le
leading-within (r ∷ rs) key = go (starts_with key r) (leading-within rs key)
  where
    go : (t : Bool) → leading rs key ≤ length rs → elim t as (λ _. ℕ) [ true ↦ suc (leading rs key) | false ↦ 0 ] ≤ suc (length rs)
    go true h = suc-le-suc h
    go false h = zero-le

drop-take : (n m : ℕ) (l : List ℕ) → drop n (take (n + m) l) ≡ take m (drop n l)
drop-take zero m l = rw zero-add
drop-take (suc n) m [] = ap (drop (suc n)) (take-nil (suc n + m)) ∙ sym (take-nil m)
drop-take (suc n) m (x ∷ l) = rw suc-add (drop-take n m l)

next-part : (i w : ℕ) → w + i * w ≡ suc i * w
next-part i w = omega (arith, suc-mul i w)

drop-parts : (i k w : ℕ) (xs : List ℕ) → drop i (parts k w xs) ≡ parts (k - i) w (drop (i * w) xs)
unfolding parts
drop-parts zero k w xs = let e : k - 0 ≡ k = omega arith in rw (e, zero-mul)
drop-parts (suc i) zero w xs = let e : 0 - suc i ≡ 0 = omega arith in rw e
drop-parts (suc i) (suc k) w xs =
    let e : suc k - suc i ≡ k - i = omega arith in
    drop-parts i k w (drop w xs) ∙ (λ j. parts (sym e j) w ((drop-drop (i * w) w xs ∙ ap (λ n. drop n xs) (next-part i w)) j))

take-parts : (m k w : ℕ) (xs : List ℕ) → m ≤ k → take m (parts k w xs) ≡ parts m w xs
unfolding parts
take-parts zero k w xs h = refl
take-parts (suc m) zero w xs h = absurd (omega arith)
take-parts (suc m) (suc k) w xs h = ap (λ rs. take w xs ∷ rs) (take-parts m k w (drop w xs) (omega arith))

cut_parts : (m w : ℕ) (xs : List ℕ) → parts m w (take (m * w) xs) ≡ parts m w xs
unfolding parts
cut_parts zero w xs = refl
cut_parts (suc m) w xs =
    let n = next-part m w in
    λ i. take-take w (suc m * w) xs (omega (arith, n)) i ∷ (ap (parts m w) (ap (λ k. drop w (take k xs)) (sym n) ∙ drop-take w (m * w) xs) ∙ cut_parts m w (drop w xs)) i

module _ (w : ℕ) (s : List ℕ) (from m : ℕ) (p : 0 < w) (h : from + m ≤ length s / w) where
  room : from * w + m * w ≤ length s
  room = omega (arith, mul-le-mul_right w h, add-mul from m w, div-mul-le_self (length s) w)

  cut : length (take (m * w) (drop (from * w) s)) / w ≡ m
  cut = ap (λ n. n / w) (length-take-le (m * w) (drop (from * w) s) (omega (arith, room, length-drop (from * w) s))) ∙ mul-div_cancel m p

  -- the records from one index on, so many of them
  pub span-records : records w (take (m * w) (drop (from * w) s)) ≡ take m (drop from (records w s))
  unfolding records
  span-records =
      ap (λ k. parts k w (take (m * w) (drop (from * w) s))) cut
      ∙ cut_parts m w (drop (from * w) s)
      ∙ sym (ap (take m) (drop-parts from (length s / w) w s) ∙ take-parts m (length s / w - from) w (drop (from * w) s) (omega arith))

-- from the first record found to after the last
pub record Span (w : ℕ) (s : List ℕ) (wanted from to : ℕ) : Type 0 where
  pub some-width : 3 ≤ w
  pub ordered : from ≤ to
  pub within : to ≤ length s / w
  pub first : (k : List ℕ) → Keyed w k wanted → ascend (records w s) ≡ true → from ≡ first_at (records w s) k
  pub last : (k : List ℕ) → Keyed w k wanted → to ≡ from + leading (drop from (records w s)) k

module _ {w : ℕ} {s : List ℕ} {wanted from to : ℕ} (i : Span w s wanted from to) where
  pub starts-before : from * w ≤ to * w
  starts-before = mul-le-mul_right w i.ordered

  pub ends-within : to * w ≤ length s
  ends-within = omega (arith, mul-le-mul_right w i.within, div-mul-le_self (length s) w)

  pub found : (k : List ℕ) → Keyed w k wanted → ascend (records w s) ≡ true → records w (take (to * w - from * w) (drop (from * w) s)) ≡ filter (starts_with k) (records w s)
  found k d a =
      let m = leading (drop from (records w s)) k in
      let l = i.last k d in
      let e : to * w - from * w ≡ m * w = ap (λ v. v * w - from * w) l ∙ omega (arith, add-mul from m w) in
      ap (λ v. records w (take v (drop (from * w) s))) e
      ∙ span-records w s from m (omega (arith, i.some-width)) (omega (arith, i.within, l))
      ∙ ap (λ v. take (leading (drop v (records w s)) k) (drop v (records w s))) (i.first k d a)
      ∙ sym (kept-span k (records w s) a)
