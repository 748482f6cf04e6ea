-- The possible records: how many there are, which one has a number, what each has, and that they ascend. Assumes nothing.
use mathlib.Core.Path.{◌≡◌, refl, sym, ap, ◌∙◌, subst}
use mathlib.Core.Logic.{◌⊎◌, inl, inr}
use mathlib.Core.Bool.{true}
use mathlib.Core.List.Memᴰ
use mathlib.Core.List.Memᴰ.{append_cases}
use mathlib.Core.List.Memᴰ.{not-nil}
use mathlib.Core.List.{List, [], ◌∷◌, ◌++◌, map, Memᴰ}
use Prim.Native.Nat.{ℕ, zero, suc, ◌+◌, ◌-◌, ◌*◌, ◌/◌, ◌%◌, ◌<◌, ◌≤◌}
use native.Mathlib.Nat.{suc-mul, zero-mul, mul-zero, mod-lt, div-add-mod', div-lt_iff_lt-mul}
use native.Mathlib.Omega.{arith}
use lib.ListN.{length, get_or, replicate, length-append, length-map, get_or-append}
use lib.Seq.{get_or-append-add}
use borrow.Author.Tests.{lt-ltb}
use lib.Dec.{ltb}
use Rattle.lists.specs.Lists.{all, concat_map, upto, Rising}
use Rattle.lists.proofs.Members.{get_d_map, concat_map-mem, upto-mem, length-upto, get_d_upto, and_of}
use Rattle.table_spec.specs.Reading.{before, ascend_from, ascend}
use Rattle.table_spec.proofs.Order.{by_first, by_others, ascend-behind, ascend-rest, ascend-cons}
use Rattle.quotient_spec.proofs.Table.{mem_index}
use Rattle.generate_spec.specs.Loads.{tuples, span, possible}

-- ---- how many, and which

module _ (xss : List (List ℕ)) where
  abbrev rest : ℕ
  rest = length (tuples xss)

  pub length-tuples : (xs : List ℕ) → length (tuples (xs ∷ xss)) ≡ length xs * rest
  unfolding tuples
  length-tuples [] = sym (zero-mul rest)
  length-tuples (x ∷ xs) =
      omega (arith, length-append (map (λ r. x ∷ r) (tuples xss)) (tuples (xs ∷ xss)), length-map (tuples xss) (λ r. x ∷ r), length-tuples xs, suc-mul (length xs) rest)

  at_place : (xs : List ℕ) (j i : ℕ) → j < length xs → i < rest → get_or (tuples (xs ∷ xss)) (j * rest + i) [] ≡ get_or xs j 0 ∷ get_or (tuples xss) i []
  unfolding tuples
  at_place [] j i h k = absurd (omega arith)
  at_place (x ∷ xs) zero i h k =
      let e : zero * rest + i ≡ i = omega (arith, zero-mul rest) in
      ap (λ n. get_or (tuples ((x ∷ xs) ∷ xss)) n []) e
      ∙ get_or-append (map (λ r. x ∷ r) (tuples xss)) (tuples (xs ∷ xss)) [] i (omega (arith, length-map (tuples xss) (λ r. x ∷ r)))
      ∙ get_d_map (λ r. x ∷ r) (tuples xss) i [] [] k
  at_place (x ∷ xs) (suc j) i h k =
      let e : suc j * rest + i ≡ length (map (λ r. x ∷ r) (tuples xss)) + (j * rest + i) = omega (arith, suc-mul j rest, length-map (tuples xss) (λ r. x ∷ r)) in
      ap (λ n. get_or (tuples ((x ∷ xs) ∷ xss)) n []) e
      ∙ get_or-append-add (map (λ r. x ∷ r) (tuples xss)) (tuples (xs ∷ xss)) (j * rest + i) []
      ∙ at_place xs j i (omega arith) k

-- where number i is: so many whole groups before it, and so far into its own
pub record Place (count group i : ℕ) : Type 0 where
  pub some : 0 < group
  pub whole : i / group < count
  pub into : i % group < group

pub placed : (count group i : ℕ) → i < count * group → Place count group i
placed count zero i h = absurd (omega (arith, mul-zero count))
placed count (suc g) i h = let s : 0 < suc g = omega arith in record { some = s; whole = (div-lt_iff_lt-mul s).1 h; into = mod-lt i s }

pub tuple_at : (xs : List ℕ) (xss : List (List ℕ)) (i : ℕ) → Place (length xs) (length (tuples xss)) i
    → get_or (tuples (xs ∷ xss)) i [] ≡ get_or xs (i / length (tuples xss)) 0 ∷ get_or (tuples xss) (i % length (tuples xss)) []
tuple_at xs xss i p =
    ap (λ n. get_or (tuples (xs ∷ xss)) n []) (sym (div-add-mod' i (length (tuples xss)))) ∙ at_place xss xs (i / length (tuples xss)) (i % length (tuples xss)) p.whole p.into

-- ---- what each has

pub record Tuple (xs : List ℕ) (xss : List (List ℕ)) (r : List ℕ) : Type 0 where
  pub first : ℕ
  pub others : List ℕ
  pub first_in : Memᴰ first xs
  pub others_in : Memᴰ others (tuples xss)
  pub same : first ∷ others ≡ r

pub tuple_of : (xs : List ℕ) (xss : List (List ℕ)) (r : List ℕ) → Memᴰ r (tuples (xs ∷ xss)) → Tuple xs xss r
unfolding tuples
tuple_of xs xss r d = go (concat_map-mem (λ x. map (λ s. x ∷ s) (tuples xss)) xs r d)
  where
    found : (x : ℕ) → Memᴰ x xs → (s : List ℕ) × Memᴰ s (tuples xss) × (x ∷ s ≡ r) → Tuple xs xss r
    found x i (s, j, e) = record { first = x; others = s; first_in = i; others_in = j; same = e }

    go : (x : ℕ) × Memᴰ x xs × Memᴰ r (map (λ s. x ∷ s) (tuples xss)) → Tuple xs xss r
    go (x, i, j) = found x i (Memᴰ.of_map (λ s. x ∷ s) (tuples xss) j)

-- ---- in order

append_ascends : (rs ss : List (List ℕ)) → ascend rs ≡ true → ascend ss ≡ true → ((r s : List ℕ) → Memᴰ r rs → Memᴰ s ss → before r s ≡ true) → ascend (rs ++ ss) ≡ true
unfolding ascend
append_ascends [] ss p q h = q
append_ascends (r ∷ rs) ss p q h =
    ascend-cons r (rs ++ ss) (λ s d. behind s (append_cases rs d)) (append_ascends rs ss (ascend-rest r rs p) q (λ a b i j. h a b (Memᴰ.tail i) j))
  where
    behind : (s : List ℕ) → Memᴰ s rs ⊎ Memᴰ s ss → before r s ≡ true
    behind s (inl d) = ascend-behind r rs p s d
    behind s (inr d) = h r s (Memᴰ.head refl) d

cons_ascends : (x : ℕ) (rs : List (List ℕ)) → ascend rs ≡ true → ascend (map (λ r. x ∷ r) rs) ≡ true
unfolding ascend
cons_ascends x [] p = refl
cons_ascends x (r ∷ rs) p = ascend-cons (x ∷ r) (map (λ r. x ∷ r) rs) (λ s d. go s (Memᴰ.of_map (λ r. x ∷ r) rs d)) (cons_ascends x rs (ascend-rest r rs p))
  where
    go : (s : List ℕ) → (q : List ℕ) × Memᴰ q rs × (x ∷ q ≡ s) → before (x ∷ r) s ≡ true
    go s (q, d, e) = subst (λ t. before (x ∷ r) t ≡ true) e (by_others x x r q refl (ascend-behind r rs p q d))

rising-rest : {x : ℕ} {xs : List ℕ} → Rising (x ∷ xs) → Rising xs
rising-rest h = record { rises = λ i j l k. h.rises (suc i) (suc j) (omega arith) (omega arith) }

rising-first : {x : ℕ} {xs : List ℕ} → Rising (x ∷ xs) → (y : ℕ) → Memᴰ y xs → x < y
rising-first {x} {xs} h y d = let (i, l, e) = mem_index y xs d in subst (λ (z : ℕ). x < z) e (h.rises 0 (suc i) (omega arith) (omega arith))

pub tuples-ascend : (xss : List (List ℕ)) → ((xs : List ℕ) → Memᴰ xs xss → Rising xs) → ascend (tuples xss) ≡ true
unfolding tuples ascend ascend_from
tuples-ascend [] h = refl
tuples-ascend (xs ∷ xss) h = go xs (h xs (Memᴰ.head refl)) (tuples-ascend xss (λ ys d. h ys (Memᴰ.tail d)))
  where
    go : (ys : List ℕ) → Rising ys → ascend (tuples xss) ≡ true → ascend (tuples (ys ∷ xss)) ≡ true
    go [] r p = refl
    go (y ∷ ys) r p = append_ascends (map (λ r. y ∷ r) (tuples xss)) (tuples (ys ∷ xss)) (cons_ascends y (tuples xss) p) (go ys (rising-rest r) p) (λ a b i j. apart a b (Memᴰ.of_map (λ r. y ∷ r) (tuples xss) i) (tuple_of ys xss b j))
      where
        apart : (a b : List ℕ) → (q : List ℕ) × Memᴰ q (tuples xss) × (y ∷ q ≡ a) → Tuple ys xss b → before a b ≡ true
        apart a b (q, d, e) t = subst (λ u. before u b ≡ true) e (subst (λ u. before (y ∷ q) u ≡ true) t.same (by_first y t.first q t.others (rising-first r t.first t.first_in)))

-- ---- the possible records

upto-rises : (n : ℕ) → Rising (upto n)
upto-rises n = record { rises = λ i j l k. omega (arith, get_d_upto n i 0 (omega (arith, length-upto n)), get_d_upto n j 0 (omega (arith, length-upto n))) }

pub length-span : (from k : ℕ) → length (span from k) ≡ k
unfolding span
length-span from k = length-map (upto k) (λ a. from + a) ∙ length-upto k

pub get_d_span : (from k i : ℕ) → i < k → get_or (span from k) i 0 ≡ from + i
unfolding span
get_d_span from k i h = get_d_map (λ a. from + a) (upto k) i 0 0 (omega (arith, length-upto k)) ∙ ap (λ a. from + a) (get_d_upto k i 0 h)

span-rises : (from k : ℕ) → Rising (span from k)
span-rises from k = record { rises = λ i j l h. omega (arith, get_d_span from k i (omega (arith, length-span from k)), get_d_span from k j (omega (arith, length-span from k))) }

span-mem : (from k a : ℕ) → Memᴰ a (span from k) → (from ≤ a) × (a < from + k)
unfolding span
span-mem from k a d = go (Memᴰ.of_map (λ b. from + b) (upto k) d)
  where
    go : (b : ℕ) × Memᴰ b (upto k) × (from + b ≡ a) → (from ≤ a) × (a < from + k)
    go (b, i, e) = let h : b < k = upto-mem k b i in (omega arith, omega arith)

states_rise : (n m : ℕ) (xs : List ℕ) → Memᴰ xs (replicate m (upto n)) → Rising xs
states_rise n zero xs d = absurd (not-nil d)
states_rise n (suc m) xs (Memᴰ.head e) = subst Rising (sym e) (upto-rises n)
states_rise n (suc m) xs (Memᴰ.tail d) = states_rise n m xs d

pub possible-ascend : (w n from k : ℕ) → ascend (possible w n from k) ≡ true
unfolding possible
possible-ascend w n from k = tuples-ascend (upto n ∷ span from k ∷ replicate (w - 2) (upto n)) rise
  where
    rise : (xs : List ℕ) → Memᴰ xs (upto n ∷ span from k ∷ replicate (w - 2) (upto n)) → Rising xs
    rise xs (Memᴰ.head e) = subst Rising (sym e) (upto-rises n)
    rise xs (Memᴰ.tail (Memᴰ.head e)) = subst Rising (sym e) (span-rises from k)
    rise xs (Memᴰ.tail (Memᴰ.tail d)) = states_rise n (w - 2) xs d

-- a list of m states
pub record StateList (n m : ℕ) (qs : List ℕ) : Type 0 where
  pub long : length qs ≡ m
  pub below : all (λ q. ltb q n) qs ≡ true

state-list : (n m : ℕ) (qs : List ℕ) → Memᴰ qs (tuples (replicate m (upto n))) → StateList n m qs
unfolding tuples
state-list n zero qs (Memᴰ.head e) = record { long = ap length e; below = ap (all (λ q. ltb q n)) e }
state-list n zero qs (Memᴰ.tail d) = absurd (not-nil d)
state-list n (suc m) qs d = let t = tuple_of (upto n) (replicate m (upto n)) qs d in go t (state-list n m t.others t.others_in)
  where
    go : (t : Tuple (upto n) (replicate m (upto n)) qs) → StateList n m t.others → StateList n (suc m) qs
    go t s =
        subst (StateList n (suc m)) t.same (record { long = ap suc s.long; below = and_of (lt-ltb _ _ (upto-mem n t.first t.first_in)) s.below })

-- a possible record
pub record Possible (w n from k : ℕ) (r : List ℕ) : Type 0 where
  pub state : ℕ
  pub symbol : ℕ
  pub others : List ℕ
  pub same : state ∷ symbol ∷ others ≡ r
  pub state-below : state < n
  pub symbol-from : from ≤ symbol
  pub symbol-below : symbol < from + k
  pub states : StateList n (w - 2) others

pub possible_of : (w n from k : ℕ) (r : List ℕ) → Memᴰ r (possible w n from k) → Possible w n from k r
unfolding possible
possible_of w n from k r d = go (tuple_of (upto n) (span from k ∷ replicate (w - 2) (upto n)) r d)
  where
    inner : (p : ℕ) (s : List ℕ) → p < n → p ∷ s ≡ r → Tuple (span from k) (replicate (w - 2) (upto n)) s → Possible w n from k r
    inner p s h e u =
        let a = span-mem from k u.first u.first_in in
        record {
          state = p;
          symbol = u.first;
          others = u.others;
          same = ap (λ x. p ∷ x) u.same ∙ e;
          state-below = h;
          symbol-from = a.0;
          symbol-below = a.1;
          states = state-list n (w - 2) u.others u.others_in;
        }

    go : Tuple (upto n) (span from k ∷ replicate (w - 2) (upto n)) r → Possible w n from k r
    go t = inner t.first t.others (upto-mem n t.first t.first_in) t.same (tuple_of (span from k) (replicate (w - 2) (upto n)) t.others t.others_in)
