-- The returns of a state by a symbol, walked along as the tops ascend: those over a top stand one after the other. Assumes nothing.
use mathlib.Core.Path.{◌≡◌, refl, sym, ap, ◌∙◌, subst}
use mathlib.Core.Logic.{◌≢◌, ◌⊎◌, inl, inr}
use mathlib.Core.Bool.{Bool, true, false}
use mathlib.Core.List.{List, [], ◌∷◌, Memᴰ}
use Prim.Native.Nat.{ℕ, ◌+◌, ◌-◌, ◌*◌, ◌/◌, ◌^◌, ◌<◌, ◌≤◌}
use native.Mathlib.Omega.{arith}
use native.Mathlib.Decide.{dec_lt, ℕ_discrete}
use lib.ListN.{length, get_or, take, drop}
use lib.Dec.{eqb}
use borrow.Author.Tests.{eq-eqb, eqb-true}
use Rattle.lists.specs.Lists.{filter, same}
use Rattle.lists.specs.Bits.{Bit}
use Rattle.lists.proofs.Members.{and-true, and_of, not_so, get_d_mem, filter-mem}
use Rattle.lists.proofs.Lowest.{LowestBit, clear_own, clear_other}
use Rattle.limits.specs.Limits.{state_most}
use Rattle.table_spec.specs.File.{records}
use Rattle.table_spec.specs.Reading.{before}
use Rattle.table_spec.proofs.Bytes.{records-wide, length-records}
use Rattle.table_spec.proofs.Order.{first_cases, ascend-before}
use Rattle.table_find.specs.Spans.{starts_with}
use Rattle.table_find.proofs.Spanning.{span-records}
use Rattle.table_index.specs.Index.{Lent}
use Rattle.table_index.proofs.Index.{record_there, byte_at}
use Rattle.table_index.proofs.Blocks.{filter-run, lent-kept}
use Rattle.clauses_records.specs.Returns.{Starting, under, Reached}

-- ---- records that start with a key

-- those of others that do
pub equal_range_kept : {s : List ℕ} (key part : List ℕ) → Lent 4 state_most s → records 4 part ≡ filter (starts_with key) (records 4 s) → Starting key part
equal_range_kept {s} key part h e = record { lent = lent-kept part (starts_with key) h e; each = λ r m. (filter-mem (starts_with key) (records 4 s) r (subst (λ (rs : List (List ℕ)). Memᴰ r rs) e m)).1 }

filter-all : (f : List ℕ → Bool) (rs : List (List ℕ)) → ((r : List ℕ) → Memᴰ r rs → f r ≡ true) → filter f rs ≡ rs
unfolding filter
filter-all f [] h = refl
filter-all f (r ∷ rs) h = rw (h r (Memᴰ.head refl), filter) (ap (λ ss. r ∷ ss) (filter-all f rs (λ s m. h s (Memᴰ.tail m))))

pub equal_range_all : {key s : List ℕ} → Starting key s → records 4 s ≡ filter (starts_with key) (records 4 s)
equal_range_all {key} {s} o = sym (filter-all (starts_with key) (records 4 s) o.each)

-- ---- a key and one byte more

starts_three : (q a u : ℕ) (r : List ℕ) → 3 ≤ length r → starts_with (q ∷ a ∷ []) r ≡ true → under r ≡ u → starts_with (q ∷ a ∷ u ∷ []) r ≡ true
unfolding starts_with same
starts_three q a u [] l e f = absurd (omega arith)
starts_three q a u (x ∷ []) l e f = absurd (omega arith)
starts_three q a u (x ∷ y ∷ []) l e f = absurd (omega arith)
starts_three q a u (x ∷ y ∷ z ∷ r) l e f =
    let p = and-true (eqb q x) (same (a ∷ []) (y ∷ [])) e in
    and_of p.0 (and_of (and-true (eqb a y) (same [] []) p.1).0 (and_of (eq-eqb u z (sym f)) refl))

three_start : (q a u : ℕ) (r : List ℕ) → 3 ≤ length r → starts_with (q ∷ a ∷ u ∷ []) r ≡ true → (starts_with (q ∷ a ∷ []) r ≡ true) × (under r ≡ u)
unfolding starts_with same
three_start q a u [] l e = absurd (omega arith)
three_start q a u (x ∷ []) l e = absurd (omega arith)
three_start q a u (x ∷ y ∷ []) l e = absurd (omega arith)
three_start q a u (x ∷ y ∷ z ∷ r) l e =
    let p = and-true (eqb q x) (same (a ∷ u ∷ []) (y ∷ z ∷ [])) e in
    let o = and-true (eqb a y) (same (u ∷ []) (z ∷ [])) p.1 in
    (and_of p.0 (and_of o.0 refl), sym (eqb-true u z (and-true (eqb u z) (same [] []) o.1).0))

-- records that start with the same two stand as their stack states do
under-before : (q a : ℕ) (r s : List ℕ) → 3 ≤ length r → 3 ≤ length s → starts_with (q ∷ a ∷ []) r ≡ true → starts_with (q ∷ a ∷ []) s ≡ true → before r s ≡ true → under r ≤ under s
unfolding starts_with same
under-before q a (x ∷ y ∷ z ∷ r) (x' ∷ y' ∷ z' ∷ s) l m e f b =
    let p = and-true (eqb q x) (same (a ∷ []) (y ∷ [])) e in
    let p' = and-true (eqb q x') (same (a ∷ []) (y' ∷ [])) f in
    go (eqb-true q x p.0) (eqb-true q x' p'.0) (eqb-true a y (and-true (eqb a y) (same [] []) p.1).0) (eqb-true a y' (and-true (eqb a y') (same [] []) p'.1).0) (first_cases x x' (y ∷ z ∷ r) (y' ∷ z' ∷ s) b)
  where
    third : (z < z') ⊎ ((z ≡ z') × (before r s ≡ true)) → z ≤ z'
    third (inl l) = omega arith
    third (inr l) = omega (arith, l.0)

    second : a ≡ y → a ≡ y' → (y < y') ⊎ ((y ≡ y') × (before (z ∷ r) (z' ∷ s) ≡ true)) → z ≤ z'
    second g h (inl l) = absurd (omega arith)
    second g h (inr l) = third (first_cases z z' r s l.1)

    go : q ≡ x → q ≡ x' → a ≡ y → a ≡ y' → (x < x') ⊎ ((x ≡ x') × (before (y ∷ z ∷ r) (y' ∷ z' ∷ s) ≡ true)) → z ≤ z'
    go g h i j (inl l) = absurd (omega arith)
    go g h i j (inr l) = second i j (first_cases y y' (z ∷ r) (z' ∷ s) l.1)
under-before q a [] s l m e f b = absurd (omega arith)
under-before q a (x ∷ []) s l m e f b = absurd (omega arith)
under-before q a (x ∷ y ∷ []) s l m e f b = absurd (omega arith)
under-before q a (x ∷ y ∷ z ∷ r) [] l m e f b = absurd (omega arith)
under-before q a (x ∷ y ∷ z ∷ r) (x' ∷ []) l m e f b = absurd (omega arith)
under-before q a (x ∷ y ∷ z ∷ r) (x' ∷ y' ∷ []) l m e f b = absurd (omega arith)

-- ---- the walk to a stack state: no record passed reaches it

pub record Reaching (s : List ℕ) (from u i : ℕ) : Type 0 where
  pub begun : from ≤ i
  pub within : i ≤ length (records 4 s)
  pub below : (j : ℕ) → from ≤ j → j < i → under (get_or (records 4 s) j []) < u

pub reaching : {s : List ℕ} {from u : ℕ} → from ≤ length (records 4 s) → Reaching s from u from
reaching h = record { begun = omega arith; within = h; below = λ j a b. absurd (omega arith) }

module _ {s : List ℕ} {from u i : ℕ} (w : Reaching s from u i) where
  module _ (h : i < length s / 4) where
    inside : i < length (records 4 s)
    inside = omega (arith, length-records 4 s)

    pub reach_inside : i * 4 + 2 < length s
    reach_inside = omega (arith, record_there 4 s i inside)

    pub reach_on : get_or s (i * 4 + 2) 0 < u → Reaching s from u (i + 1)
    reach_on l = record { begun = omega (arith, w.begun); within = omega (arith, inside); below = λ j a b. one j (ℕ_discrete j i) a b }
      where
        one : (j : ℕ) → Dec (j ≡ i) → from ≤ j → j < i + 1 → under (get_or (records 4 s) j []) < u
        one j (yes e) a b = subst (λ (k : ℕ). under (get_or (records 4 s) k []) < u) (sym e) (omega (arith, byte_at 4 s i inside 2 (omega arith), l))
        one j (no d) a b = w.below j a (omega (arith, d))

    pub reach_there : u ≤ get_or s (i * 4 + 2) 0 → Reached (records 4 s) from u i
    reach_there l = record { begun = w.begun; within = w.within; below = w.below; there = λ k. omega (arith, byte_at 4 s i inside 2 (omega arith), l) }

  pub reach_end : length s / 4 ≤ i → Reached (records 4 s) from u (length s / 4)
  reach_end h =
      let e : i ≡ length s / 4 = omega (arith, w.within, length-records 4 s) in
      record { begun = omega (arith, w.begun); within = omega (arith, length-records 4 s); below = λ j a b. w.below j a (omega arith); there = λ k. absurd (omega (arith, length-records 4 s, k)) }

-- ---- the tops in ascending order

-- every record before the one at hand stands below each top to come
pub record Walked (s : List ℕ) (rest at : ℕ) : Type 0 where
  pub within : at ≤ length (records 4 s)
  pub passed : (j : ℕ) → j < at → (u : ℕ) → Bit rest u → under (get_or (records 4 s) j []) < u

pub walked : (s : List ℕ) (rest : ℕ) → Walked s rest 0
walked s rest = record { within = omega arith; passed = λ j a. absurd (omega arith) }

module _ {s : List ℕ} {rest at u from to : ℕ} (w : Walked s rest at) (low : LowestBit rest u) (f : Reached (records 4 s) at u from) (t : Reached (records 4 s) from (u + 1) to) where
  below-from : (j : ℕ) → j < from → under (get_or (records 4 s) j []) < u
  below-from j l = go (dec_lt j at)
    where
      go : Dec (j < at) → under (get_or (records 4 s) j []) < u
      go (yes d) = w.passed j d u low.own
      go (no d) = f.below j (omega arith) l

  below-to : (j : ℕ) → j < to → under (get_or (records 4 s) j []) < u + 1
  below-to j l = go (dec_lt j from)
    where
      go : Dec (j < from) → under (get_or (records 4 s) j []) < u + 1
      go (yes d) = omega (arith, below-from j d)
      go (no d) = t.below j (omega arith) l

  pub walk_on : {later : ℕ} → later ≡ rest - 2 ^ u → Walked s later to
  walk_on {later} e = record { within = t.within; passed = λ j l y b. omega (arith, below-to j l, past y (subst (λ (v : ℕ). Bit v y) e b)) }
    where
      past : (y : ℕ) → Bit (rest - 2 ^ u) y → u < y
      past y b = go (ℕ_discrete y u)
        where
          go : Dec (y ≡ u) → u < y
          go (yes d) = absurd (clear_own rest u low.own (rw d at b))
          go (no d) = omega (arith, d, low.least y (sym (clear_other rest u y low.own d) ∙ b))

  pub walk-starts : from * 4 ≤ to * 4
  walk-starts = omega (arith, t.begun)

  pub walk_ends : to * 4 ≤ length s
  walk_ends = omega (arith, t.within, length-records 4 s)

  module _ {q a : ℕ} (o : Starting (q ∷ a ∷ []) s) where
    long : (k : ℕ) → k < length (records 4 s) → 3 ≤ length (get_or (records 4 s) k [])
    long k l = omega (arith, records-wide 4 s _ (get_d_mem (records 4 s) k [] l))

    own : (k : ℕ) → k < length (records 4 s) → starts_with (q ∷ a ∷ []) (get_or (records 4 s) k []) ≡ true
    own k l = o.each _ (get_d_mem (records 4 s) k [] l)

    rises : (i j : ℕ) → i ≤ j → j < length (records 4 s) → under (get_or (records 4 s) i []) ≤ under (get_or (records 4 s) j [])
    rises i j l k = go (dec_lt i j)
      where
        go : Dec (i < j) → under (get_or (records 4 s) i []) ≤ under (get_or (records 4 s) j [])
        go (yes d) = under-before q a _ _ (long i (omega arith)) (long j k) (own i (omega arith)) (own j k) (ascend-before (records 4 s) o.lent.in_order i j d k)
        go (no d) = let e : i ≡ j = omega arith in omega (arith, ap (λ m. under (get_or (records 4 s) m [])) e)

    elsewhere : (k : ℕ) → k < length (records 4 s) → under (get_or (records 4 s) k []) ≢ u → starts_with (q ∷ a ∷ u ∷ []) (get_or (records 4 s) k []) ≡ false
    elsewhere k l n = not_so _ (λ e. n (three_start q a u (get_or (records 4 s) k []) (long k l) e).1)

    -- the part walked over has the records over the top
    pub walk-found : records 4 (take (to * 4 - from * 4) (drop (from * 4) s)) ≡ filter (starts_with (q ∷ a ∷ u ∷ [])) (records 4 s)
    walk-found =
        let m = to - from in
        let n : to ≡ from + m = omega (arith, t.begun) in
        let e : to * 4 - from * 4 ≡ m * 4 = omega arith in
        let i : to ≤ length (records 4 s) = t.within in
        ap (λ v. records 4 (take v (drop (from * 4) s))) e
        ∙ span-records 4 s from m (omega arith) (omega (arith, length-records 4 s))
        ∙ sym (filter-run (starts_with (q ∷ a ∷ u ∷ [])) [] from m (records 4 s) (omega arith)
        (λ k l. elsewhere k (omega arith) (λ g. omega (arith, below-from k l)))
        (λ k l g. let d : k < length (records 4 s) = omega arith in starts_three q a u (get_or (records 4 s) k []) (long k d) (own k d) (omega (arith, below-to k (omega arith), f.there (omega arith), rises from k l d)))
        (λ k l g. elsewhere k g (λ d. omega (arith, t.there (omega arith), rises to k (omega arith) g))))
