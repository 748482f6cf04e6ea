-- The lowest state joined to each state, variable by variable, and the map that it gives. Assumes nothing.
use mathlib.Core.Path.{◌≡◌, refl, sym, ap, ◌∙◌, subst}
use mathlib.Core.Logic.{◌≢◌, ◌⊎◌, inl, inr}
use mathlib.Core.List.{List}
use Prim.Native.Nat.{ℕ, suc, ◌+◌, ◌≤◌, ◌<◌}
use native.Mathlib.Numerals.{add-one}
use native.Mathlib.Omega.{arith}
use native.Mathlib.Decide.{ℕ_discrete, dec_lt}
use lib.ListN.{length, get_or, set, length-set}
use lib.Seq.{get_or-set_same, get_or-set_other}
use Rattle.lists.specs.Lists.{upto}
use Rattle.lists.proofs.Members.{get_d_any, get_d_upto}
use Rattle.cnf.specs.Clauses.{value_of}
use Rattle.limits.specs.Limits.{state_most}
use Rattle.pairs.specs.declared.Pair.{Pair}
use Rattle.pairs.specs.Pairs.{pairs, variable_of, pair_of}
use Rattle.pairs.specs.Entries.{pair_in, PairTable}
use Rattle.pairs.proofs.Pairs.{variable-lt, variable-pair, pair-variable, pair-ordered, pair-below}
use Rattle.pairs.proofs.Entries.{pair_found}
use Rattle.reduce_map.specs.Lowest.{LowestPartner, LowestJoined}

-- ---- variable by variable

-- at first each state is its own
own : (v : List ℕ) (q : ℕ) → LowestPartner v 0 q q
own v q = record { within = omega arith; earlier = λ n. absurd (n refl); joined = λ n. absurd (n refl); least = λ p l h. absurd (omega arith) }

pub all_own : (v : List ℕ) → LowestJoined v 0 (upto state_most)
unfolding upto
all_own v = record { long = refl; each = λ q h. subst (λ (l : ℕ). LowestPartner v 0 q l) (sym (get_d_upto state_most q 0 h)) (own v q) }

-- a later pair of one state
later : (p l q x : ℕ) → p < l → l ≤ q → variable_of p q < suc x → (variable_of p q < x) ⊎ (variable_of p q ≡ x)
later p l q x a b h = go (dec_lt (variable_of p q) x)
  where
    go : Dec (variable_of p q < x) → (variable_of p q < x) ⊎ (variable_of p q ≡ x)
    go (yes k) = inl k
    go (no k) = inr (omega arith)

-- the variable x says nothing new of q
unchanged : (v : List ℕ) (x q l : ℕ) → ((p : ℕ) → p < l → variable_of p q ≡ x → value_of v x ≢ 1) → LowestPartner v x q l → LowestPartner v (suc x) q l
unchanged v x q l new h = record {
  within = h.within;
  earlier = λ n. omega (arith, h.earlier n);
  joined = h.joined;
  least = λ p a b. go p a (later p l q x a h.within b);
}
  where
    go : (p : ℕ) → p < l → (variable_of p q < x) ⊎ (variable_of p q ≡ x) → value_of v (variable_of p q) ≢ 1
    go p a (inl k) = h.least p a k
    go p a (inr e) = λ f. new p a e (ap (value_of v) (sym e) ∙ f)

module _ {v : List ℕ} {x : ℕ} {low : List ℕ} (h : LowestJoined v x low) where
  -- a false variable
  pub passed-false : value_of v x ≢ 1 → LowestJoined v (suc x) low
  passed-false n = record { long = h.long; each = λ q l. unchanged v x q (get_or low q 0) (λ p a e. n) (h.each q l) }

  other-state : (q : ℕ) → q < state_most → q ≢ (pair_of x).high → LowestPartner v (suc x) q (get_or low q 0)
  other-state q l d = unchanged v x q (get_or low q 0) (λ p a e f. d (sym (pair-variable p q (omega (arith, (h.each q l).within))).1 ∙ ap (λ (y : ℕ). (pair_of y).high) e)) (h.each q l)

  -- a true variable of a state that has a lower one
  pub passed_later : get_or low (pair_of x).high 0 ≢ (pair_of x).high → LowestJoined v (suc x) low
  passed_later n = record { long = h.long; each = λ q l. go q l (ℕ_discrete q (pair_of x).high) }
    where
      go : (q : ℕ) → q < state_most → Dec (q ≡ (pair_of x).high) → LowestPartner v (suc x) q (get_or low q 0)
      go q l (no d) = other-state q l d
      go q l (yes e) =
          let n' : get_or low q 0 ≢ q = λ z. n (ap (λ (y : ℕ). get_or low y 0) (sym e) ∙ z ∙ e) in
          let k = h.each q l in
          unchanged v x q (get_or low q 0) (λ p a f g. omega (arith, k.earlier n', k.within, variable-lt p q (omega (arith, k.within)), variable-lt (get_or low q 0) q (omega (arith, k.within)))) k

  -- the first true variable of a state
  pub lower : (pair_of x).high < state_most → get_or low (pair_of x).high 0 ≡ (pair_of x).high → value_of v x ≡ 1 → LowestJoined v (suc x) (set low (pair_of x).high (pair_of x).low)
  lower b own is = record { long = length-set low _ _ ∙ h.long; each = λ q l. go q l (ℕ_discrete q (pair_of x).high) }
    where
      first : LowestPartner v (suc x) (pair_of x).high (pair_of x).low
      first = record {
        within = omega (arith, pair-ordered x);
        earlier = λ n. omega (arith, variable-pair x);
        joined = λ n. ap (value_of v) (variable-pair x) ∙ is;
        least = λ p a c. (h.each (pair_of x).high b).least p (omega (arith, own, pair-ordered x)) (omega (arith, variable-pair x, variable-lt p (pair_of x).high (omega (arith, pair-ordered x)), variable-lt (pair_of x).low (pair_of x).high (pair-ordered x)));
      }

      go : (q : ℕ) → q < state_most → Dec (q ≡ (pair_of x).high) → LowestPartner v (suc x) q (get_or (set low (pair_of x).high (pair_of x).low) q 0)
      go q l (no d) = subst (λ (y : ℕ). LowestPartner v (suc x) q y) (sym (get_or-set_other low (pair_of x).high q (pair_of x).low 0 d)) (other-state q l d)
      go q l (yes e) =
          subst (λ (y : ℕ). LowestPartner v (suc x) y (get_or (set low (pair_of x).high (pair_of x).low) y 0)) (sym e)
          (subst (λ (y : ℕ). LowestPartner v (suc x) (pair_of x).high y) (sym (get_or-set_same low (pair_of x).high (pair_of x).low 0 (omega (arith, h.long)))) first)

-- ---- as the code has it

-- the lowest joined states once the variables below x are seen
pub record Seen (v : List ℕ) (n x : ℕ) (low : List ℕ) : Type 0 where
  pub inside : x ≤ pairs n
  pub lowest : LowestJoined v x low

-- the states of a variable that was looked up
module _ {v low : List ℕ} {n x : ℕ} (fits : (n ≤ state_most) × (pairs n ≤ length v)) (h : Seen v n x low) (l : x < pairs n) where
  one_on : {s : List ℕ} → LowestJoined v (suc x) s → Seen v n (x + 1) s
  one_on k = record { inside = omega arith; lowest = rw add-one k }

  pub seen_false : get_or v x 0 ≢ 1 → Seen v n (x + 1) low
  seen_false e = one_on (passed-false h.lowest (λ f. e (get_d_any v x 0 2 (omega arith) ∙ f)))

  module _ {a b q : ℕ} {t : List ℕ} (table : PairTable t) (found : record { low = a; high = b } ≡ pair_in t x) (widened : q ≡ b) where
    is_pair : record { low = a; high = b } ≡ pair_of x
    is_pair = pair_found n x fits.0 table l found

    low_is : a ≡ (pair_of x).low
    low_is = ap (λ (p : Pair). p.low) is_pair

    high_is : b ≡ (pair_of x).high
    high_is = ap (λ (p : Pair). p.high) is_pair

    place_is : q ≡ (pair_of x).high
    place_is = widened ∙ high_is

    pub high_below : q < state_most
    high_below = omega (arith, place_is, pair-below n x l)

    pub seen-later : get_or low q 0 ≢ b → Seen v n (x + 1) low
    seen-later e = one_on (passed_later h.lowest (λ f. e (ap (λ (y : ℕ). get_or low y 0) place_is ∙ f ∙ sym high_is)))

    pub seen-lower : get_or v x 0 ≡ 1 → get_or low q 0 ≡ b → Seen v n (x + 1) (set low q a)
    seen-lower is e =
        one_on
        (subst (λ (y : ℕ). LowestJoined v (suc x) (set low q y)) (sym low_is)
        (subst (λ (y : ℕ). LowestJoined v (suc x) (set low y (pair_of x).low)) (sym place_is)
        (lower h.lowest (omega (arith, place_is, high_below)) (ap (λ (y : ℕ). get_or low y 0) (sym place_is) ∙ e ∙ high_is) (get_d_any v x 2 0 (omega arith) ∙ is))))

pub seen_all : {v low : List ℕ} {n x : ℕ} → Seen v n x low → pairs n ≤ x → LowestJoined v (pairs n) low
seen_all {v} {low} {n} {x} h l = subst (λ (y : ℕ). LowestJoined v y low) (omega (arith, h.inside)) h.lowest
