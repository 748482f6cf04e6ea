-- What the loops of the product have of two sections and their indexes: a pair's two states, and their blocks. Assumes nothing.
use mathlib.Core.Path.{◌≡◌, refl, sym, ap, ◌∙◌, subst}
use mathlib.Core.Bool.{Bool}
use mathlib.Core.List.{List, [], ◌∷◌, ◌++◌, map}
use Prim.Native.Nat.{ℕ, ◌+◌, ◌*◌, ◌/◌, ◌%◌, ◌<◌, ◌≤◌}
use native.Mathlib.Nat.{div-lt_iff_lt-mul, mod-lt, div-le_self}
use native.Mathlib.Omega.{arith}
use lib.ListN.{length}
use Rattle.std.specs.Prelude.{Option, Some}
use Rattle.lists.specs.Lists.{filter, concat_map, upto, parts}
use Rattle.table_spec.specs.File.{records}
use Rattle.table_find.specs.Keys.{key_from, key, Keyed}
use Rattle.table_find.specs.Spans.{starts_with, StartingOf}
use Rattle.table_index.specs.Index.{Lent, Placed}
use Rattle.table_index.proofs.Index.{lent-more}
use Rattle.table_index.proofs.Blocks.{placed, lent-kept}
use Rattle.table_spec.specs.Language.{targets}
use Rattle.combine_spec.specs.Combine.{renumbered, first_of}
use Rattle.combine_spec.specs.Walk.{pair_targets, walk}
use Rattle.combine_keys.specs.Adding.{Adds, Collected, target_keys}
use Rattle.combine_keys.specs.Factors.{Ready, Blocks}
use Rattle.combine_keys.proofs.Adding.{none_held, adds_none}
use Rattle.combine_keys.proofs.Walks.{moves_keyed, returns_keyed, walk-within, walk_keyed}

module _ {w n m : ℕ} {first second one two : List ℕ} (h : Ready w n m first second one two) {x a : ℕ} (l : x < n * m) (s : a < 64) where
  pub row : x / m < n
  row = (div-lt_iff_lt-mul h.some-second).1 l

  pub first_asked : {p b : ℕ} → p ≡ x / m → b ≡ a → (3 ≤ w) × Lent w 40 first × Placed (records w first) one p b × (p < 40) × (b < 64)
  first_asked {p} {b} e f =
      let k : p < n = omega (arith, row) in
      (h.some-width, lent-more h.first-lent h.firsts-few, placed h.one-indexed k (omega arith), omega (arith, h.firsts-few), omega arith)

-- ---- what was added

pub moves_added : (k m : ℕ) (rs ss : List (List ℕ)) (own other : List ℕ) (x : ℕ) {ks ks' : List ℕ} {p q b a n : ℕ} {n' : Option ℕ} → p ≡ x / m → q ≡ x % m → b ≡ a
    → records 3 own ≡ filter (starts_with (p ∷ b ∷ [])) rs → records 3 other ≡ filter (starts_with (q ∷ b ∷ [])) ss
    → Adds (target_keys k m 3 own other) ks n ks' n' → Adds (map (key_from k) (walk m rs ss [] (x ∷ a ∷ []))) ks n ks' n'
moves_added k m rs ss own other x {ks} {ks'} {n = n} {n' = n'} e f g h j d = subst (λ xs. Adds xs ks n ks' n') (moves_keyed k m rs ss own other x e f g h j) d

pub over_added : (k m : ℕ) (rs ss : List (List ℕ)) (c x a : ℕ) {n : ℕ} {n' : Option ℕ} {ks ks' : List ℕ}
    → Adds (concat_map (λ y. map (key_from (k * 256 + y)) (walk m rs ss [] (x ∷ a ∷ y ∷ []))) (upto c)) ks n ks' n' → Adds (map (key_from k) (walk m rs ss (c ∷ []) (x ∷ a ∷ []))) ks n ks' n'
over_added k m rs ss c x a {n} {n'} {ks} {ks'} d = subst (λ xs. Adds xs ks n ks' n') (sym (walk_keyed k m rs ss c [] (x ∷ a ∷ []))) d

pub returns_added : (k m : ℕ) (rs ss : List (List ℕ)) (own other : List ℕ) (c x : ℕ) {ks ks' : List ℕ} {p q b a n : ℕ} {n' : Option ℕ} → p ≡ x / m → q ≡ x % m → b ≡ a
    → records 4 own ≡ filter (starts_with (p ∷ b ∷ [])) rs → records 4 other ≡ filter (starts_with (q ∷ b ∷ [])) ss
    → Adds (map (key_from k) (walk m (records 4 own) (records 4 other) (c ∷ []) (x ∷ a ∷ []))) ks n ks' n' → Adds (map (key_from k) (walk m rs ss (c ∷ []) (x ∷ a ∷ []))) ks n ks' n'
returns_added k m rs ss own other c x {ks} {ks'} {n = n} {n' = n'} e f g h j d = subst (λ xs. Adds (map (key_from k) xs) ks n ks' n') (walk-within m rs ss (records 4 own) (records 4 other) c x e f g h j) d

-- the blocks of a pair and a symbol
pub blocks_ready : {n m : ℕ} {first second one two : List ℕ} → Ready 4 n m first second one two → (own other : List ℕ) (f g : List ℕ → Bool) {x a : ℕ} → x < n * m → a < 64
    → records 4 own ≡ filter f (records 4 first) → records 4 other ≡ filter g (records 4 second) → Blocks m (n * m) x a own other
blocks_ready h own other f g l s e d =
    record {
      some-second = h.some-second;
      seconds-few = h.seconds-few;
      few = h.few;
      pair = l;
      symbol = s;
      first_ascends = (lent-kept own f h.first-lent e).in_order;
      second_ascends = (lent-kept other g h.second-lent d).in_order;
    }

-- one pair that may have been pushed
module _ {m n x a : ℕ} {first second : List ℕ} (h : Blocks m n x a first second) where
  small : (y : ℕ) → y < n → (y / m < 256) × (y % m < 256)
  small y l = (omega (arith, div-le_self y m, h.few), omega (arith, mod-lt y h.some-second, h.seconds-few))

  pub one-pushed : (k : ℕ) (own other : List ℕ) (y : ℕ) {p q b s v i j : ℕ} → p ≡ x / m → q ≡ x % m → b ≡ a → s ≡ y / m → v ≡ y % m
      → Keyed 4 (p ∷ b ∷ s ∷ []) i → Keyed 4 (q ∷ b ∷ v ∷ []) j → StartingOf 4 first i own → StartingOf 4 second j other
      → target_keys k m 4 own other ≡ map (key_from k) (walk m (records 4 first) (records 4 second) [] (x ∷ a ∷ y ∷ []))
  one-pushed k own other y {p} {q} {b} {s} {v} e f g d c i j o t =
      returns_keyed k m (records 4 first) (records 4 second) own other x y e f g d c (o (p ∷ b ∷ s ∷ []) i h.first_ascends) (t (q ∷ b ∷ v ∷ []) j h.second_ascends)

-- ---- where one of the two blocks is empty

no_records : (s : List ℕ) → length s ≡ 0 → records 4 s ≡ []
unfolding records parts
no_records [] e = refl
no_records (x ∷ s) e = absurd (omega arith)

none_each : {A : Type 0} (f : ℕ → List A) → ((y : ℕ) → f y ≡ []) → (ys : List ℕ) → concat_map f ys ≡ []
none_each f h [] = refl
none_each f h (y ∷ ys) = λ i. h y i ++ none_each f h ys i

pub first-empty : (k m : ℕ) (rs ss : List (List ℕ)) (own other : List ℕ) (c x : ℕ) {ks : List ℕ} {p q b a n : ℕ} → p ≡ x / m → q ≡ x % m → b ≡ a
    → records 4 own ≡ filter (starts_with (p ∷ b ∷ [])) rs → records 4 other ≡ filter (starts_with (q ∷ b ∷ [])) ss
    → length own ≡ 0 → Adds (map (key_from k) (walk m rs ss (c ∷ []) (x ∷ a ∷ []))) ks n ks (Some n)
unfolding walk targets pair_targets filter
first-empty k m rs ss own other c x {ks} {a = a} {n = n} e f g h j l =
    returns_added k m rs ss own other c x e f g h j
    (subst (λ os. Adds (map (key_from k) (walk m os (records 4 other) (c ∷ []) (x ∷ a ∷ []))) ks n ks (Some n)) (sym (no_records own l))
    (subst (λ ws. Adds (map (key_from k) ws) ks n ks (Some n)) (sym (none_each (λ y. map (λ r. y ∷ r) (walk m [] (records 4 other) [] (x ∷ a ∷ y ∷ []))) (λ y. refl) (upto c))) adds_none))

pub second_empty : (k m : ℕ) (rs ss : List (List ℕ)) (own other : List ℕ) (c x : ℕ) {ks : List ℕ} {p q b a n : ℕ} → p ≡ x / m → q ≡ x % m → b ≡ a
    → records 4 own ≡ filter (starts_with (p ∷ b ∷ [])) rs → records 4 other ≡ filter (starts_with (q ∷ b ∷ [])) ss
    → length other ≡ 0 → Adds (map (key_from k) (walk m rs ss (c ∷ []) (x ∷ a ∷ []))) ks n ks (Some n)
unfolding walk targets pair_targets filter
second_empty k m rs ss own other c x {ks} {a = a} {n = n} e f g h j l =
    returns_added k m rs ss own other c x e f g h j
    (subst (λ os. Adds (map (key_from k) (walk m (records 4 own) os (c ∷ []) (x ∷ a ∷ []))) ks n ks (Some n)) (sym (no_records other l))
    (subst (λ ws. Adds (map (key_from k) ws) ks n ks (Some n)) (sym (none_each (λ y. map (λ r. y ∷ r) (walk m (records 4 own) [] [] (x ∷ a ∷ y ∷ []))) (λ y. ap (map (λ r. y ∷ r)) (none_each (λ p. []) (λ p. refl) (targets (records 4 own) (renumbered (first_of m) (x ∷ a ∷ y ∷ []))))) (upto c))) adds_none))

-- ---- by symbol, by pair, and all

pub ready_as : {w v n m : ℕ} {first second one two : List ℕ} → w ≡ v → Ready w n m first second one two → Ready v n m first second one two
ready_as {n = n} {m = m} {first = first} {second = second} {one = one} {two = two} e h = subst (λ (v : ℕ). Ready v n m first second one two) e h

pub pair_added : (m : ℕ) (rs ss : List (List ℕ)) (c : ℕ) (cs : List ℕ) (x : ℕ) {n : ℕ} {n' : Option ℕ} {ks ks' : List ℕ}
    → Adds (concat_map (λ a. map (key_from (x * 256 + a)) (walk m rs ss cs (x ∷ a ∷ []))) (upto c)) ks n ks' n' → Adds (map (key_from x) (walk m rs ss (c ∷ cs) (x ∷ []))) ks n ks' n'
pair_added m rs ss c cs x {n} {n'} {ks} {ks'} d = subst (λ xs. Adds xs ks n ks' n') (sym (walk_keyed x m rs ss c cs (x ∷ []))) d

pub all_collected : (m : ℕ) (rs ss : List (List ℕ)) (c : ℕ) (cs : List ℕ) {n : Option ℕ} {ks ks' : List ℕ}
    → Adds (concat_map (λ x. map (key_from x) (walk m rs ss cs (x ∷ []))) (upto c)) ks 0 ks' n → Collected (length ks) (map key (walk m rs ss (c ∷ cs) [])) ks' n
all_collected m rs ss c cs {n} {ks} {ks'} d =
    subst (λ xs. Collected (length ks) xs ks' n)
    ((λ i. concat_map (λ x. map (key_from (none x i)) (walk m rs ss cs (x ∷ []))) (upto c)) ∙ sym (walk_keyed 0 m rs ss c cs []))
    (d.each [] (none_held ks))
  where
    none : (x : ℕ) → x ≡ 0 * 256 + x
    none x = omega arith
