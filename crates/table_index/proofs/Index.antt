-- Where the records of each state and symbol begin: bytes and places of records, and what is made at each turn of the pass. Assumes nothing.
use mathlib.Core.Path.{◌≡◌, refl, ap, ◌∙◌}
use mathlib.Core.Logic.{◌≢◌, ◌⊎◌, inl, inr}
use mathlib.Core.Bool.{true}
use mathlib.Core.List.{List, [], ◌∷◌, Memᴰ}
use Prim.Native.Nat.{ℕ, ◌+◌, ◌*◌, ◌/◌, ◌<◌, ◌≤◌}
use native.Mathlib.Omega.{arith}
use native.Mathlib.Nat.{add-zero}
use native.Mathlib.Decide.{dec_lt}
use lib.ListN.{length, get_or}
use Rattle.lists.proofs.Members.{get_d_mem}
use Rattle.lists.proofs.Parts.{get_d_parts}
use Rattle.limits.specs.Limits.{state_most, symbol_most}
use Rattle.table_spec.specs.File.{records}
use Rattle.table_spec.specs.Reading.{before}
use Rattle.table_spec.proofs.Bytes.{records-wide, length-records}
use Rattle.table_spec.proofs.Order.{first_cases, ascend-before}
use Rattle.table_find.proofs.Spanning.{record_inside}
use Rattle.tops.proofs.Loops.{record_byte}
use Rattle.table_index.specs.Index.{Lent, place_of, places, Begins, Indexed, Filled}

-- ---- a record's bytes

module _ (w : ℕ) (s : List ℕ) (k : ℕ) (h : k < length (records w s)) where
  inside-count : k < length s / w
  inside-count = omega (arith, length-records w s)

  -- a whole record is there
  pub record_there : k * w + w ≤ length s
  record_there = record_inside w s k inside-count

  pub byte_at : (i : ℕ) → i < w → get_or (get_or (records w s) k []) i 0 ≡ get_or s (k * w + i) 0
  unfolding records
  byte_at i l = ap (λ r. get_or r i 0) (get_d_parts (length s / w) w s k inside-count) ∙ record_byte w s (k * w) i l

  pub byte_first : 0 < w → get_or (get_or (records w s) k []) 0 0 ≡ get_or s (k * w) 0
  byte_first l = byte_at 0 l ∙ ap (λ i. get_or s i 0) (add-zero (k * w))

module _ {w n : ℕ} {s : List ℕ} (h : Lent w n s) where
  -- fewer states are no more
  pub lent-more : {m : ℕ} → n ≤ m → Lent w m s
  lent-more l = record { in_order = h.in_order; few = h.few; states = λ r m i d k. omega (arith, h.states r m i d k); symbols = h.symbols }

  module _ (k : ℕ) (l : k < length (records w s)) where
    there : Memᴰ (get_or (records w s) k []) (records w s)
    there = get_d_mem (records w s) k [] l

    pub symbol-small : get_or (get_or (records w s) k []) 1 0 < symbol_most
    symbol-small = h.symbols _ there

    pub state-small : (i : ℕ) → i ≢ 1 → i < w → get_or (get_or (records w s) k []) i 0 < n
    state-small = h.states _ there

-- record k as the code reads it: it is there, and its state, its symbol and the place of the two
pub record Read (w n : ℕ) (s : List ℕ) (k : ℕ) : Type 0 where
  pub there : k * w + w ≤ length s
  pub state : get_or s (k * w) 0 < n
  pub symbol : get_or s (k * w + 1) 0 < symbol_most
  pub place : get_or s (k * w) 0 * symbol_most + get_or s (k * w + 1) 0 ≡ place_of (get_or (records w s) k [])
  pub few : k < 4096

pub at_record : {w n : ℕ} {s : List ℕ} {k : ℕ} → 3 ≤ w → Lent w n s → k < length s / w → Read w n s k
at_record {w} {n} {s} {k} wide h l =
    let i : k < length (records w s) = omega (arith, length-records w s) in
    let a = byte_first w s k i (omega arith) in
    let b = byte_at w s k i 1 (omega arith) in
    record {
      there = record_there w s k i;
      state = omega (arith, a, state-small h k i 0 (λ z. omega arith) (omega arith));
      symbol = omega (arith, b, symbol-small h k i);
      place = omega (arith, a, b);
      few = omega (arith, h.few);
    }

-- ---- places rise

two-first : (r s : List ℕ) → 2 ≤ length r → 2 ≤ length s → before r s ≡ true → (get_or r 0 0 < get_or s 0 0) ⊎ ((get_or r 0 0 ≡ get_or s 0 0) × (get_or r 1 0 ≤ get_or s 1 0))
two-first [] s a b e = absurd (omega arith)
two-first (x ∷ []) s a b e = absurd (omega arith)
two-first (x ∷ y ∷ r) [] a b e = absurd (omega arith)
two-first (x ∷ y ∷ r) (u ∷ []) a b e = absurd (omega arith)
two-first (x ∷ y ∷ r) (u ∷ v ∷ s) a b e = go (first_cases x u (y ∷ r) (v ∷ s) e)
  where
    next : (y < v) ⊎ ((y ≡ v) × (before r s ≡ true)) → y ≤ v
    next (inl l) = omega arith
    next (inr l) = omega (arith, l.0)

    go : (x < u) ⊎ ((x ≡ u) × (before (y ∷ r) (v ∷ s) ≡ true)) → (x < u) ⊎ ((x ≡ u) × (y ≤ v))
    go (inl l) = inl l
    go (inr l) = inr (l.0, next (first_cases y v r s l.1))

module _ {w n : ℕ} {s : List ℕ} (wide : 3 ≤ w) (h : Lent w n s) where
  pub rises : (i j : ℕ) → i ≤ j → j < length (records w s) → place_of (get_or (records w s) i []) ≤ place_of (get_or (records w s) j [])
  rises i j l k = go (dec_lt i j)
    where
      long : (m : ℕ) → m < length (records w s) → 2 ≤ length (get_or (records w s) m [])
      long m d = omega (arith, records-wide w s _ (get_d_mem (records w s) m [] d))

      by :
          (get_or (get_or (records w s) i []) 0 0 < get_or (get_or (records w s) j []) 0 0) ⊎ ((get_or (get_or (records w s) i []) 0 0 ≡ get_or (get_or (records w s) j []) 0 0) × (get_or (get_or (records w s) i []) 1 0 ≤ get_or (get_or (records w s) j []) 1 0))
          → place_of (get_or (records w s) i []) ≤ place_of (get_or (records w s) j [])
      by (inl d) = omega (arith, d, symbol-small h i (omega arith))
      by (inr d) = omega (arith, d.0, d.1)

      go : Dec (i < j) → place_of (get_or (records w s) i []) ≤ place_of (get_or (records w s) j [])
      go (yes d) = by (two-first _ _ (long i (omega arith)) (long j k) (ascend-before (records w s) h.in_order i j d k))
      go (no d) = let e : i ≡ j = omega arith in omega (arith, ap (λ m. place_of (get_or (records w s) m [])) e)

-- ---- the pass: k records are passed, and the entries before x are made

pub record Indexing (rs : List (List ℕ)) (starts : List ℕ) (x k : ℕ) : Type 0 where
  pub inside : k ≤ length rs
  pub long : length starts ≡ places state_most + 1
  pub passed : (j : ℕ) → j < k → place_of (get_or rs j []) < x
  pub reached : (x ≡ 0) ⊎ ((j : ℕ) × (j < k) × (x ≡ place_of (get_or rs j []) + 1))
  pub made : (y : ℕ) → y < x → Begins rs y (get_or starts y 0)

pub indexing : (rs : List (List ℕ)) (starts : List ℕ) → length starts ≡ places state_most + 1 → Indexing rs starts 0 0
indexing rs starts e = record { inside = omega arith; long = e; passed = λ j l. absurd (omega arith); reached = inl refl; made = λ y l. absurd (omega arith) }

module _ {rs : List (List ℕ)} {starts : List ℕ} {x k : ℕ} (p : Indexing rs starts x k) where
  -- what the entries from x on begin with: no record before the one at k reaches x, and those from it on reach z
  made_on : {z : ℕ} {new : List ℕ} → Filled x z k starts new → ((j : ℕ) → k ≤ j → j < length rs → z ≤ place_of (get_or rs j []) + 1) → (y : ℕ) → y < z → Begins rs y (get_or new y 0)
  made_on {z} {new} f up y l = go (dec_lt y x)
    where
      here : x ≤ y → Begins rs y k
      here d = record { within = p.inside; before = λ j m. omega (arith, p.passed j m, d); behind = λ j a b. omega (arith, up j a b, l) }

      go : Dec (y < x) → Begins rs y (get_or new y 0)
      go (yes d) = rw (f.before y d) (p.made y d)
      go (no d) = rw (f.inside y (omega arith) l) (here (omega arith))

  -- all records are passed
  pub indexed : {n m : ℕ} {new : List ℕ} → length rs ≤ k → m ≡ k → Filled x (places n + 1) m starts new → Indexed n rs new
  indexed l e f = record { each = λ y m. made_on (rw e at f) (λ j a b. absurd (omega (arith, a, b))) y (omega arith) }

module _ {w n : ℕ} {s : List ℕ} (wide : 3 ≤ w) (few : n ≤ state_most) (h : Lent w n s) {starts : List ℕ} {x k : ℕ} (p : Indexing (records w s) starts x k) (l : k < length (records w s)) where
  module _ {place : ℕ} (e : place ≡ place_of (get_or (records w s) k [])) where
    pub place-room : place + 1 ≤ places state_most
    place-room = omega (arith, e, symbol-small h k l, state-small h k l 0 (λ z. omega arith) (omega arith))

    -- the entries made reach no further
    pub before_place : x ≤ place + 1
    before_place = go p.reached
      where
        go : (x ≡ 0) ⊎ ((j : ℕ) × (j < k) × (x ≡ place_of (get_or (records w s) j []) + 1)) → x ≤ place + 1
        go (inl z) = omega arith
        go (inr r) = omega (arith, e, r.1, r.2, rises wide h r.0 k (omega (arith, r.1)) l)

    pub index_on : {new : List ℕ} → Filled x (place + 1) k starts new → Indexing (records w s) new (place + 1) (k + 1)
    index_on f =
        record {
          inside = omega arith;
          long = f.long ∙ p.long;
          passed = λ j m. omega (arith, e, rises wide h j k (omega arith) l);
          reached = inr (k, omega arith, ap (λ v. v + 1) e);
          made = made_on p f (λ j a b. omega (arith, e, rises wide h k j a b));
        }

-- the entries made are entries of the n states
pub before_end : {w n : ℕ} {s starts : List ℕ} {x k : ℕ} → 3 ≤ w → Lent w n s → Indexing (records w s) starts x k → x ≤ places n + 1
before_end {w} {n} {s} {starts} {x} {k} wide h p = go p.reached
  where
    go : (x ≡ 0) ⊎ ((j : ℕ) × (j < k) × (x ≡ place_of (get_or (records w s) j []) + 1)) → x ≤ places n + 1
    go (inl z) = omega arith
    go (inr r) =
        let l : r.0 < length (records w s) = omega (arith, r.1, p.inside) in
        omega (arith, r.2, symbol-small h r.0 l, state-small h r.0 l 0 (λ z. omega arith) (omega arith))
