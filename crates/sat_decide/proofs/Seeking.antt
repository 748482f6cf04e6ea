-- The first unset variable, by its place among the values from `low` on. Assumes nothing.
use Rattle.std.proofs.Common.{◌≡◌, refl, sym, ap, ◌∙◌, ◌==◌, true, false, Bool, true≢false, cond, nat_lt, ℕ, ◌+◌, ◌-◌, ◌≤◌, ◌<◌, ◌≢◌, List, length, get_or, take, drop, Some, None, arith, length-drop}
use Rattle.std.proofs.lemmas.List.{take_all}
use Rattle.std.specs.List.{position, position_or_len}
use Rattle.std.proofs.lemmas.List.Quantifiers.{position-Some}
use Rattle.std.proofs.lemmas.List.Sums.{fails_before_first}
use lib.Seq.{get_or-drop}
use borrow.Author.Tests.{eqb-true, eq-eqb, ltb-false}
use Rattle.lists.proofs.Members.{get_d_any}
use Rattle.cnf.specs.Clauses.{value_of}
use Rattle.sat_decide.specs.Turns.{NextUnset, LowestUnset}

module _ (v : List ℕ) (low : ℕ) (h : low ≤ length v) where
  -- the values from low on, as the code lends them
  abbrev lent : List ℕ
  lent = take (length v - low) (drop low v)

  lent_is : lent ≡ drop low v
  lent_is = take_all (length v - low) (drop low v) (omega (arith, length-drop low v))

  lent_long : length lent ≡ length v - low
  lent_long = ap length lent_is ∙ length-drop low v

  read : (k : ℕ) → low + k < length v → get_or lent k 0 ≡ value_of v (low + k)
  read k l = ap (λ (w : List ℕ). get_or w k 0) lent_is ∙ get_or-drop low v k 0 ∙ sym (get_d_any v (low + k) 2 0 l)

  none_before : (i : ℕ) → low + i ≤ length v → ((k : ℕ) → k < i → (get_or lent k 0 == 2) ≡ false) → (j : ℕ) → low ≤ j → j < low + i → value_of v j ≢ 2
  none_before i l none j p q e =
      let at : low + (j - low) ≡ j = omega arith in
      let two : get_or lent (j - low) 0 ≡ 2 = read (j - low) (omega arith) ∙ ap (value_of v) at ∙ e in
      true≢false (sym (eq-eqb _ _ two) ∙ none (j - low) (omega arith))

  pub unset_found : {i : ℕ} → position (λ y. y == 2) lent ≡ Some i → LowestUnset v low (low + i)
  unset_found {i} e =
      let s = position-Some (λ y. y == 2) lent i 0 e in
      let inside : low + i < length v = omega (arith, s.0, lent_long) in
      record {
        first = record {
          from = omega arith;
          to = omega (arith, inside);
          passed = none_before i (omega (arith, inside)) s.2;
          found = λ _. sym (read i inside) ∙ eqb-true _ _ s.1;
        };
        inside = inside;
      }

  pub unset_none : position (λ y. y == 2) lent ≡ None → NextUnset v low (length v)
  unset_none e =
      let all : length lent ≤ position_or_len (λ y. y == 2) lent = go (nat_lt (position_or_len (λ y. y == 2) lent) (length lent)) refl e in
      record {
        from = h;
        to = omega arith;
        passed = λ j p q. none_before (length v - low) (omega arith) (λ k l. fails_before_first (λ y. y == 2) lent k 0 (omega (arith, all, lent_long, l))) j p (omega arith);
        found = λ l. absurd (omega (arith, l));
      }
    where
      go : (t : Bool) → nat_lt (position_or_len (λ y. y == 2) lent) (length lent) ≡ t → cond t (Some (position_or_len (λ y. y == 2) lent)) None ≡ None → length lent ≤ position_or_len (λ y. y == 2) lent
      go true q r = cc
      go false q r = ltb-false _ _ q
