-- Laws for a variable that is set or unset in the values, and its pair in the words. Assumes nothing.
use mathlib.Core.Path.{◌≡◌, sym, ap, ◌∙◌}
use mathlib.Core.Logic.{◌≢◌}
use mathlib.Core.List.{List}
use Prim.Native.Nat.{ℕ, ◌+◌, ◌-◌, ◌/◌, ◌%◌, ◌^◌, ◌≤◌, ◌<◌}
use native.Mathlib.Omega.{arith}
use native.Mathlib.Decide.{ℕ_discrete}
use lib.ListN.{length, get_or, set, length-set}
use lib.Seq.{get_or-set_same, get_or-set_other}
use Rattle.lists.proofs.Members.{get_d_any}
use Rattle.cnf.specs.Clauses.{value_of}
use Rattle.pairs.specs.declared.Pair.{Pair}
use Rattle.pairs.specs.Pairs.{pairs, variable_of, pair_of}
use Rattle.pairs.specs.Entries.{pair_in, PairTable}
use Rattle.pairs.proofs.Pairs.{pair-ordered, pair-below, variable-pair}
use Rattle.pairs.proofs.Entries.{pair_found}
use Rattle.sat_trail.specs.Rows.{Rows, Own, unmarked, Marked, PairAt, Put, Assigned, Forced}
use Rattle.sat_trail.specs.Conclusions.{saying}
use Rattle.sat_trail.proofs.Marking.{rows-marked, rows_unjoined, rows_unparted, rows_none}

-- ---- the states of a variable

module _ {n : ℕ} {v joined apart : List ℕ} (o : Rows n v joined apart) {x : ℕ} (l : x < length v) (some : n ≡ 0 → ⊥) where
  in_pairs : x < pairs n
  in_pairs = omega (arith, o.size (omega arith))

  pub pair_of_lem : {t : List ℕ} {r : Pair} → PairTable t → r ≡ pair_in t x → PairAt n x r.low r.high
  pair_of_lem {t} {r} k e =
      let same = pair_found n x o.few k in_pairs e in
      let a : r.low ≡ (pair_of x).low = ap (λ (y : Pair). y.low) same in
      let b : r.high ≡ (pair_of x).high = ap (λ (y : Pair). y.high) same in
      record { order = rw (a, b) (pair-ordered x); inside = rw b (pair-below n x in_pairs); is_x = rw (a, b) (variable-pair x) }

-- ---- a variable is set or unset, with the place that its store takes

module _ {n : ℕ} {v joined apart : List ℕ} (o : Rows n v joined apart) {x i : ℕ} (e : i ≡ x) where
  -- there are no states
  pub assigned-none : {k : ℕ} → n ≡ 0 → Assigned n v x k (set v i k) joined apart
  assigned-none z = record { values = rw e; rows = rw z (rows_none o.long-joined o.long_apart) }

  module _ {p q : ℕ} (g : PairAt n x p q) where
    pub pair-states : (p < 40) × (q < 40)
    pair-states = (omega (arith, g.order, g.inside, o.few), omega (arith, g.inside, o.few))

    low_in : p < n
    low_in = omega (arith, g.order, g.inside)

    differ : p ≢ q
    differ = omega (arith, g.order)

    pub assigned-marked : {k : ℕ} {joined' apart' : List ℕ} → value_of v x ≡ 2 → k ≤ 1 → Marked joined apart k p q joined' apart' → Assigned n v x k (set v i k) joined' apart'
    assigned-marked u s m = record { values = rw e; rows = rw (e, ← g.is_x) (rows-marked o p q low_in g.inside differ (rw g.is_x u) s m) }

    module _ {k : ℕ} (l : i < length v) (f : k ≡ get_or v i 0) where
      value_was : value_of v (variable_of p q) ≡ k
      value_was = ap (value_of v) (g.is_x ∙ sym e) ∙ get_d_any v i 2 0 l ∙ sym f

      pub unset-joined : k ≡ 1 → Assigned n v x 2 (set v i 2) (unmarked joined p q) apart
      unset-joined z = record { values = rw e; rows = rw (e, ← g.is_x) (rows_unjoined o p q low_in g.inside differ (omega (arith, value_was))) }

      pub unset-apart : (k ≡ 1 → ⊥) → Assigned n v x 2 (set v i 2) joined (unmarked apart p q)
      unset-apart z = record { values = rw e; rows = rw (e, ← g.is_x) (rows_unparted o p q low_in g.inside differ (omega (arith, value_was))) }

-- a pair is put: the literal that says so is made true
pub put_forced :
    {n : ℕ} {v t joined apart w s joined' apart' : List ℕ} {count x p q k r : ℕ} → Rows n v joined apart → x ≡ variable_of p q → p < n → q < n → p ≢ q
    → value_of v (variable_of p q) ≡ 2 → k ≤ 1
    → Put v t joined apart count x p q k w s joined' apart' r → Forced n v t count (saying (variable_of p q) k) w s joined' apart' r
put_forced {p = p} {q = q} {k = k} o e a b d u l h =
    let half : saying (variable_of p q) k / 2 ≡ variable_of p q = omega arith in
    let sign : 1 - saying (variable_of p q) k % 2 ≡ k = omega arith in
    record {
      assigned = record { values = rw (half, sign, ← e) h.values; rows = rw (h.values, e) (rows-marked o p q a b d u l h.marks) };
      trail = rw (half, ← e) h.trail;
      count-more = h.count-more;
    }

-- ---- the start

-- the states below p have their words
pub record OwnTo (f : List ℕ) (p : ℕ) : Type 0 where
  pub long : length f ≡ 40
  pub most : p ≤ 40
  pub alone : (i : ℕ) → i < p → get_or f i 0 ≡ 2 ^ i

module _ {f : List ℕ} {p : ℕ} (h : OwnTo f p) where
  pub own_on : {w : ℕ} → p < 40 → w ≡ 2 ^ p → OwnTo (set f p w) (p + 1)
  own_on {w} l z = record { long = length-set f p w ∙ h.long; most = omega arith; alone = λ j k. go j k (ℕ_discrete j p) }
    where
      go : (j : ℕ) → j < p + 1 → Dec (j ≡ p) → get_or (set f p w) j 0 ≡ 2 ^ j
      go j k (yes y) = ap (λ (m : ℕ). get_or (set f p w) m 0) y ∙ get_or-set_same f p w 0 (omega (arith, h.long)) ∙ z ∙ ap (λ (m : ℕ). 2 ^ m) (sym y)
      go j k (no y) = get_or-set_other f p j w 0 y ∙ h.alone j (omega arith)

  pub own_end : 40 ≤ p → Own f
  own_end l = record { long = h.long; alone = λ i k. h.alone i (omega (arith, l)) }
