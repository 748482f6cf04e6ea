-- The words of joined and apart states go with the values: where a pair is set and marked, and where it is unset and cleared. Assumes nothing.
use mathlib.Core.Path.{◌≡◌, refl, sym, ◌∙◌}
use mathlib.Core.Logic.{◌⊎◌, inl, inr, ◌≢◌}
use mathlib.Core.Bool.{Bool, true, false}
use mathlib.Core.List.{List}
use Prim.Native.Nat.{ℕ, ◌^◌, ◌≤◌, ◌<◌}
use native.Mathlib.Omega.{arith}
use native.Mathlib.Decide.{ℕ_discrete}
use lib.ListN.{length, get_or, set, replicate, length-set, get_or-replicate}
use lib.Seq.{get_or-set_same, get_or-set_other}
use lib.Dec.{ltb}
use borrow.Author.Tests.{ltb-true, ltb-false}
use Rattle.lists.specs.Bits.{Bit}
use Rattle.lists.proofs.Bits.{no_bit, bit-own, bit-pow}
use Rattle.cnf.specs.Clauses.{value_of}
use Rattle.cnf.proofs.Values.{set_cases, set_more}
use Rattle.pairs.specs.Pairs.{variable_of}
use Rattle.pairs.proofs.Pairs.{variable_sym, variable_injective, variable-below}
use Rattle.pairs.specs.Pairs.{pairs}
use Rattle.sat_trail.specs.Rows.{IsJoined, itself, other, IsApart, Rows, Own, marked, unmarked, Marked}
use Rattle.sat_trail.proofs.Words.{Same, length_marked, marked_of, marked-keeps, marked-own, length-unmarked, unmarked_of, of_unmarked}

-- ---- pairs

pub pair_cases : (p q r s : ℕ) → p ≢ q → r ≢ s → variable_of r s ≡ variable_of p q → Same p q r s
pair_cases p q r s a b e = go (ltb p q) refl (ltb r s) refl
  where
    go : (x : Bool) → ltb p q ≡ x → (y : Bool) → ltb r s ≡ y → Same p q r s
    go true f true g = inl (variable_injective r s p q (ltb-true r s g) (ltb-true p q f) e)
    go true f false g = let i = variable_injective s r p q (omega (arith, ltb-false r s g)) (ltb-true p q f) (variable_sym s r ∙ e) in inr (i.1, i.0)
    go false f true g = let i = variable_injective r s q p (ltb-true r s g) (omega (arith, ltb-false p q f)) (e ∙ variable_sym p q) in inr i
    go false f false g = let i = variable_injective s r q p (omega (arith, ltb-false r s g)) (omega (arith, ltb-false p q f)) (variable_sym s r ∙ e ∙ variable_sym p q) in inl (i.1, i.0)

pair_same : (v : List ℕ) (p q r s : ℕ) → Same p q r s → value_of v (variable_of r s) ≡ value_of v (variable_of p q)
pair_same v p q r s (inl e) = rw (e.0, e.1)
pair_same v p q r s (inr e) = rw (e.0, e.1, variable_sym q p)

-- ---- a pair's value changes

-- another value than k is the old one
was : (v : List ℕ) (x k i : ℕ) → value_of (set v x k) i ≢ k → value_of (set v x k) i ≡ value_of v i
was v x k i n = go (set_cases v x k i)
  where
    go : ((i ≡ x) × (value_of (set v x k) i ≡ k)) ⊎ (value_of (set v x k) i ≡ value_of v i) → value_of (set v x k) i ≡ value_of v i
    go (inl e) = absurd (n e.1)
    go (inr e) = e

module _ {n : ℕ} {v joined apart : List ℕ} (o : Rows n v joined apart) (p q : ℕ) (a : p < n) (b : q < n) (d : p ≢ q) where
  abbrev x : ℕ
  x = variable_of p q

  pub pair_inside : x < length v
  pair_inside = omega (arith, o.size (omega arith), variable-below n p q a b d)

  now-set : (k : ℕ) → value_of (set v x k) x ≡ k
  now-set k = get_or-set_same v x k 2 pair_inside

  sized : (k : ℕ) → 0 < n → length (set v x k) ≡ pairs n
  sized k z = length-set v x k ∙ o.size z

  in_joined : (r : ℕ) → r < n → r < length joined
  in_joined r l = omega (arith, o.few, o.long-joined)

  in_apart : (r : ℕ) → r < n → r < length apart
  in_apart r l = omega (arith, o.few, o.long_apart)

  swapped_in : (r s : ℕ) → Same p q r s → (s < n) × (s ≢ r)
  swapped_in r s (inl e) = (omega arith, λ z. d (sym e.0 ∙ sym z ∙ e.1))
  swapped_in r s (inr e) = (omega arith, λ z. d (sym e.1 ∙ z ∙ e.0))

  -- it was unset
  module _ (u : value_of v x ≡ 2) where
    still : (k i : ℕ) → value_of v i ≢ 2 → value_of (set v x k) i ≡ value_of v i
    still k i = (set_more v x k u).keeps i

    joined-more : (k r s : ℕ) → IsJoined n v r s → IsJoined n (set v x k) r s
    joined-more k r s (itself l e) = itself l e
    joined-more k r s (other l c e) = other l c (still k (variable_of r s) (omega arith) ∙ e)

    apart_more : (k r s : ℕ) → IsApart n v r s → IsApart n (set v x k) r s
    apart_more k r s i = record { inside = i.inside; different = i.different; false-pair = still k (variable_of r s) (omega (arith, i.false-pair)) ∙ i.false-pair }

    rows-joined : Rows n (set v x 1) (marked joined p q) apart
    rows-joined = record {
      few = o.few;
      size = sized 1;
      long-joined = length_marked joined p q ∙ o.long-joined;
      long_apart = o.long_apart;
      joined_of = λ r s l c. to r s l (marked_of joined p q (in_joined p a) (in_joined q b) r s c);
      of_joined = from;
      apart_of = λ r s l c. apart_more 1 r s (o.apart_of r s l c);
      of_apart = λ r s l c. o.of_apart r s l (record { inside = c.inside; different = c.different; false-pair = sym (was v x 1 (variable_of r s) (omega (arith, c.false-pair))) ∙ c.false-pair });
    }
      where
        to : (r s : ℕ) → r < n → Bit (get_or joined r 0) s ⊎ Same p q r s → IsJoined n (set v x 1) r s
        to r s l (inl c) = joined-more 1 r s (o.joined_of r s l c)
        to r s l (inr e) = let i = swapped_in r s e in other i.0 i.1 (pair_same (set v x 1) p q r s e ∙ now-set 1)

        from : (r s : ℕ) → r < n → IsJoined n (set v x 1) r s → Bit (get_or (marked joined p q) r 0) s
        from r s l (itself m e) = marked-keeps joined p q (in_joined p a) (in_joined q b) r s (o.of_joined r s l (itself m e))
        from r s l (other m c e) = go (set_cases v x 1 (variable_of r s))
          where
            go : ((variable_of r s ≡ x) × (value_of (set v x 1) (variable_of r s) ≡ 1)) ⊎ (value_of (set v x 1) (variable_of r s) ≡ value_of v (variable_of r s)) → Bit (get_or (marked joined p q) r 0) s
            go (inl y) = marked-own joined p q (in_joined p a) (in_joined q b) r s (pair_cases p q r s d (λ z. c (sym z)) y.0)
            go (inr y) = marked-keeps joined p q (in_joined p a) (in_joined q b) r s (o.of_joined r s l (other m c (sym y ∙ e)))

    rows_apart : Rows n (set v x 0) joined (marked apart p q)
    rows_apart = record {
      few = o.few;
      size = sized 0;
      long-joined = o.long-joined;
      long_apart = length_marked apart p q ∙ o.long_apart;
      joined_of = λ r s l c. joined-more 0 r s (o.joined_of r s l c);
      of_joined = λ r s l c. o.of_joined r s l (old r s c);
      apart_of = λ r s l c. to r s l (marked_of apart p q (in_apart p a) (in_apart q b) r s c);
      of_apart = λ r s l c. from r s l c (set_cases v x 0 (variable_of r s));
    }
      where
        old : (r s : ℕ) → IsJoined n (set v x 0) r s → IsJoined n v r s
        old r s (itself l e) = itself l e
        old r s (other l c e) = other l c (sym (was v x 0 (variable_of r s) (omega arith)) ∙ e)

        to : (r s : ℕ) → r < n → Bit (get_or apart r 0) s ⊎ Same p q r s → IsApart n (set v x 0) r s
        to r s l (inl c) = apart_more 0 r s (o.apart_of r s l c)
        to r s l (inr e) = let i = swapped_in r s e in record { inside = i.0; different = i.1; false-pair = pair_same (set v x 0) p q r s e ∙ now-set 0 }

        from :
            (r s : ℕ) → r < n → IsApart n (set v x 0) r s
            → ((variable_of r s ≡ x) × (value_of (set v x 0) (variable_of r s) ≡ 0)) ⊎ (value_of (set v x 0) (variable_of r s) ≡ value_of v (variable_of r s))
            → Bit (get_or (marked apart p q) r 0) s
        from r s l c (inl y) = marked-own apart p q (in_apart p a) (in_apart q b) r s (pair_cases p q r s d (λ z. c.different (sym z)) y.0)
        from r s l c (inr y) = marked-keeps apart p q (in_apart p a) (in_apart q b) r s (o.of_apart r s l (record { inside = c.inside; different = c.different; false-pair = sym y ∙ c.false-pair }))

    -- and is set to k and marked
    pub rows-marked : {k : ℕ} {joined' apart' : List ℕ} → k ≤ 1 → Marked joined apart k p q joined' apart' → Rows n (set v x k) joined' apart'
    rows-marked {k} {joined'} {apart'} l m = go (ℕ_discrete k 1)
      where
        go : Dec (k ≡ 1) → Rows n (set v x k) joined' apart'
        go (yes e) = rw ((m.joins e).0, (m.joins e).1, e) rows-joined
        go (no e) = let z : k ≡ 0 = omega arith in rw ((m.parts e).0, (m.parts e).1, z) rows_apart

  -- it is unset
  away : (r s : ℕ) → value_of (set v x 2) (variable_of r s) ≢ 2 → Same p q r s → ⊥
  away r s n e = n (pair_same (set v x 2) p q r s e ∙ now-set 2)

  left : (r s : ℕ) → s ≢ r → (Same p q r s → ⊥) → value_of (set v x 2) (variable_of r s) ≡ value_of v (variable_of r s)
  left r s c n = get_or-set_other v x (variable_of r s) 2 2 (λ e. n (pair_cases p q r s d (λ z. c (sym z)) e))

  -- what is joined or apart is so as before
  old_joined : (r s : ℕ) → IsJoined n (set v x 2) r s → IsJoined n v r s
  old_joined r s (itself l e) = itself l e
  old_joined r s (other l c e) = other l c (sym (was v x 2 (variable_of r s) (omega arith)) ∙ e)

  old_apart : (r s : ℕ) → IsApart n (set v x 2) r s → IsApart n v r s
  old_apart r s i = record { inside = i.inside; different = i.different; false-pair = sym (was v x 2 (variable_of r s) (omega (arith, i.false-pair))) ∙ i.false-pair }

  joined_away : (r s : ℕ) → IsJoined n (set v x 2) r s → Same p q r s → ⊥
  joined_away r s (itself l e) = λ z. (swapped_in r s z).1 e
  joined_away r s (other l c e) = away r s (omega arith)

  joined-left : (r s : ℕ) → IsJoined n v r s → (Same p q r s → ⊥) → IsJoined n (set v x 2) r s
  joined-left r s (itself l e) n = itself l e
  joined-left r s (other l c e) n = other l c (left r s c n ∙ e)

  apart-left : (r s : ℕ) → IsApart n v r s → (Same p q r s → ⊥) → IsApart n (set v x 2) r s
  apart-left r s i n = record { inside = i.inside; different = i.different; false-pair = left r s i.different n ∙ i.false-pair }

  -- a pair that is not apart is cleared among the joined
  pub rows_unjoined : value_of v x ≢ 0 → Rows n (set v x 2) (unmarked joined p q) apart
  rows_unjoined u = record {
    few = o.few;
    size = sized 2;
    long-joined = length-unmarked joined p q ∙ o.long-joined;
    long_apart = o.long_apart;
    joined_of = λ r s l c. let k = unmarked_of joined p q (in_joined p a) (in_joined q b) r s c in joined-left r s (o.joined_of r s l k.0) k.1;
    of_joined = λ r s l c. of_unmarked joined p q (in_joined p a) (in_joined q b) r s (o.of_joined r s l (old_joined r s c)) (joined_away r s c);
    apart_of = λ r s l c. let i = o.apart_of r s l c in apart-left r s i (λ e. u (sym (pair_same v p q r s e) ∙ i.false-pair));
    of_apart = λ r s l c. o.of_apart r s l (old_apart r s c);
  }

  -- and one that is not joined among the apart
  pub rows_unparted : value_of v x ≢ 1 → Rows n (set v x 2) joined (unmarked apart p q)
  rows_unparted u = record {
    few = o.few;
    size = sized 2;
    long-joined = o.long-joined;
    long_apart = length-unmarked apart p q ∙ o.long_apart;
    joined_of = λ r s l c. let i = o.joined_of r s l c in joined-left r s i (apart_from r s i);
    of_joined = λ r s l c. o.of_joined r s l (old_joined r s c);
    apart_of = λ r s l c. let k = unmarked_of apart p q (in_apart p a) (in_apart q b) r s c in apart-left r s (o.apart_of r s l k.0) k.1;
    of_apart = λ r s l c. of_unmarked apart p q (in_apart p a) (in_apart q b) r s (o.of_apart r s l (old_apart r s c)) (away r s (omega (arith, c.false-pair)));
  }
    where
      apart_from : (r s : ℕ) → IsJoined n v r s → Same p q r s → ⊥
      apart_from r s (itself l e) = λ z. (swapped_in r s z).1 e
      apart_from r s (other l c e) = λ z. u (sym (pair_same v p q r s z) ∙ e)

-- ---- with no states, and at the start

-- the words say nothing
pub rows_none : {v joined apart : List ℕ} → length joined ≡ 40 → length apart ≡ 40 → Rows 0 v joined apart
rows_none a b = record {
  few = omega arith;
  size = λ z. absurd (omega arith);
  long-joined = a;
  long_apart = b;
  joined_of = λ p s l c. absurd (omega arith);
  of_joined = λ p s l c. absurd (omega arith);
  apart_of = λ p s l c. absurd (omega arith);
  of_apart = λ p s l c. absurd (omega arith);
}

-- nothing is set: each state is joined to itself
pub rows_start : {n : ℕ} {v joined : List ℕ} → n ≤ 40 → (0 < n → length v ≡ pairs n) → ((i : ℕ) → value_of v i ≡ 2) → Own joined → Rows n v joined (replicate 40 0)
rows_start {n} {v} {joined} few size none own = record {
  few = few;
  size = size;
  long-joined = own.long;
  long_apart = refl;
  joined_of = λ p s l c. let e = bit-pow p s (rw (own.alone p (omega arith)) at c) in itself (omega arith) e;
  of_joined = λ p s l c. rw (own.alone p (omega arith)) (alone p s c);
  apart_of = λ p s l c. absurd (no_bit s (rw (get_or-replicate {A = ℕ} 40 p 0 0 (omega arith)) at c));
  of_apart = λ p s l c. absurd (omega (arith, none (variable_of p s), c.false-pair));
}
  where
    alone : (p s : ℕ) → IsJoined n v p s → Bit (2 ^ p) s
    alone p s (itself l e) = rw e (bit-own p)
    alone p s (other l c e) = absurd (omega (arith, none (variable_of p s)))
