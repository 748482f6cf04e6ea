-- Laws for judging a list of clause words: what is still to come of each loop. Assumes nothing.
use mathlib.Core.Path.{◌≡◌, refl, sym, ap, ◌∙◌, subst}
use mathlib.Core.Logic.{◌⊎◌, inl, inr}
use mathlib.Core.Bool.{Bool, true, false, ◌&&◌, ◌||◌, not, and-false, true≢false}
use mathlib.Core.List.Memᴰ.{cases_cons}
use mathlib.Core.List.Memᴰ.{not-nil}
use mathlib.Core.List.{List, [], ◌∷◌, map, Memᴰ}
use Prim.Native.Nat.{ℕ, zero, suc, ◌+◌, ◌-◌, ◌/◌, ◌≤◌, ◌<◌}
use native.Mathlib.Numerals.{add-one}
use native.Mathlib.Omega.{arith}
use native.Mathlib.Decide.{ℕ_discrete}
use lib.ListN.{length, get_or, set, take, drop, replicate, get_or-replicate, length-set, length-drop, drop_of_length-le}
use lib.Seq.{get_or-set_same, get_or-set_other, drop-cons, drop-drop}
use lib.Dec.{eqb, leb, ltb}
use borrow.Author.Tests.{eq-eqb, ne_eqb, le-leb, lt-leb}
use Rattle.lists.specs.Lists.{any, all, mem}
use Rattle.lists.proofs.Members.{and-true, and_of, or_left, not_so, get_d_mem, one_on}
use Rattle.search.specs.Marks.{MarksBelow}
use Rattle.cnf.specs.Clauses.{clauses_in, whole, distinct, clause_fits}
use Rattle.cnf.proofs.Words.{clauses_nil, clauses_cons, whole-nil, whole-cons, fits_below, fits-distinct, fits_of}

-- a clause's variables
abbrev pub variables_of : List ℕ → List ℕ
variables_of = map (λ l. l / 2)

-- ---- the marks of the variables met in a clause

-- from the last literal down to the one at i
pub record Marked (ls marks : List ℕ) (mark i : ℕ) : Type 0 where
  pub below : MarksBelow marks (mark + 1)
  pub met : (x : ℕ) → x < 780 → eqb (get_or marks x 0) mark ≡ mem x (variables_of (drop i ls))

-- none is left after the last one
none_on : (ls : List ℕ) → drop (length ls) ls ≡ []
none_on [] = refl
none_on (l ∷ ls) = none_on ls

pub marked : (ls : List ℕ) {marks : List ℕ} {mark : ℕ} → MarksBelow marks mark → Marked ls marks mark (length ls)
unfolding mem
marked ls {marks} {mark} b = record {
  below = record { long = b.long; lower = λ x h. omega (arith, b.lower x h) };
  met = λ x h. rw (none_on ls) (ne_eqb (get_or marks x 0) mark (λ e. omega (arith, b.lower x h, e)));
}

pub none-marked : MarksBelow (replicate 780 0) 1
none-marked = record { long = refl; lower = λ x h. omega (arith, get_or-replicate {A = ℕ} 780 x 0 0 h) }

pub lower_still : {marks : List ℕ} {a b : ℕ} → MarksBelow marks a → a ≤ b → MarksBelow marks b
lower_still p h = record { long = p.long; lower = λ x k. omega (arith, p.lower x k) }

-- the variables from a literal on
variables_on : (ls : List ℕ) (i : ℕ) → i < length ls → variables_of (drop i ls) ≡ (get_or ls i 0 / 2) ∷ variables_of (drop (i + 1) ls)
variables_on ls i h = ap variables_of (one_on ls i h)

pub mark_on : {ls marks : List ℕ} {mark i j x : ℕ} → j ≡ i + 1 → Marked ls marks mark j → i < length ls → x ≡ get_or ls i 0 / 2 → x < 780 → Marked ls (set marks x mark) mark i
unfolding mem
mark_on {ls} {marks} {mark} {i} {j} {x} s g h e k = record {
  below = record { long = length-set marks x mark ∙ p.below.long; lower = λ y l. omega (arith, lows y l (ℕ_discrete y x)) };
  met = λ y l. mets y l (ℕ_discrete y x) ∙ ap (λ z. eqb y z || mem y (variables_of (drop (i + 1) ls))) e ∙ sym (ap (mem y) (variables_on ls i h));
}
  where
    p : Marked ls marks mark (i + 1)
    p = subst (Marked ls marks mark) s g

    here : get_or (set marks x mark) x 0 ≡ mark
    here = get_or-set_same marks x mark 0 (omega (arith, p.below.long))

    lows : (y : ℕ) → y < 780 → Dec (y ≡ x) → get_or (set marks x mark) y 0 ≤ mark
    lows y l (yes q) = omega (arith, ap (λ z. get_or (set marks x mark) z 0) q, here)
    lows y l (no q) = omega (arith, get_or-set_other marks x y mark 0 q, p.below.lower y l)

    mets : (y : ℕ) → y < 780 → Dec (y ≡ x) → eqb (get_or (set marks x mark) y 0) mark ≡ (eqb y x || mem y (variables_of (drop (i + 1) ls)))
    mets y l (yes q) = eq-eqb _ _ (ap (λ z. get_or (set marks x mark) z 0) q ∙ here) ∙ sym (or_left (mem y (variables_of (drop (i + 1) ls))) (eq-eqb y x q))
    mets y l (no q) = ap (λ z. eqb z mark) (get_or-set_other marks x y mark 0 q) ∙ p.met y l ∙ sym (rw (ne_eqb y x q))

-- ---- whether a clause fits

distinct_on : (ls : List ℕ) (i : ℕ) → distinct (variables_of ls) ≡ true → distinct (variables_of (drop i ls)) ≡ true
unfolding distinct
distinct_on ls zero d = d
distinct_on [] (suc i) d = d
distinct_on (l ∷ ls) (suc i) d = distinct_on ls i (and-true (not (mem (l / 2) (variables_of ls))) (distinct (variables_of ls)) d).1

pub record Fitting (ls : List ℕ) (n i : ℕ) : Type 0 where
  pub inside : i ≤ length ls
  pub below : (l : ℕ) → Memᴰ l (drop i ls) → l / 2 < n
  pub once : distinct (variables_of (drop i ls)) ≡ true

pub fitting : (ls : List ℕ) (n : ℕ) → Fitting ls n (length ls)
unfolding distinct
fitting ls n =
    record { inside = omega arith; below = λ l m. absurd (not-nil (rw (none_on ls) at m)); once = rw (none_on ls) }

pub fit_all : {ls : List ℕ} {n : ℕ} → Fitting ls n 0 → true ≡ clause_fits n ls
fit_all {ls} {n} p = sym (fits_of n ls p.below p.once)

pub fit-done : {ls : List ℕ} {n i : ℕ} → Fitting ls n i → i ≤ 0 → true ≡ clause_fits n ls
fit-done {ls} {n} {i} p h = let e : i ≡ 0 = omega (arith, h) in fit_all (subst (Fitting ls n) e p)

-- the next literal down, by its mark
module _ {ls marks : List ℕ} {n mark i j x : ℕ} (s : j ≡ i + 1) (p : Fitting ls n j) (m : Marked ls marks mark j) (most : n ≤ 780) (h : i < length ls) (e : x ≡ get_or ls i 0 / 2) where
  pub mark-past : n ≤ x → false ≡ clause_fits n ls
  mark-past k = sym (not_so (clause_fits n ls) (λ f. bad (fits_below n ls f (get_or ls i 0) (get_d_mem ls i 0 h))))
    where
      bad : get_or ls i 0 / 2 < n → ⊥
      bad l = omega arith

  met_is : x < n → eqb (get_or marks x 0) mark ≡ mem (get_or ls i 0 / 2) (variables_of (drop (i + 1) ls))
  met_is k = (subst (Marked ls marks mark) s m).met x (omega arith) ∙ ap (λ z. mem z (variables_of (drop (i + 1) ls))) e

  pub mark_twice : x < n → get_or marks x 0 ≡ mark → false ≡ clause_fits n ls
  unfolding distinct
  mark_twice k q = sym (not_so (clause_fits n ls) (λ f. twice (distinct_on ls i (fits-distinct n ls f))))
    where
      there : mem (get_or ls i 0 / 2) (variables_of (drop (i + 1) ls)) ≡ true
      there = sym (met_is k) ∙ eq-eqb _ _ q

      twice : distinct (variables_of (drop i ls)) ≡ true → ⊥
      twice d = true≢false (sym (rw (variables_on ls i h, distinct, there) at d))

  pub mark-new : x < n → (get_or marks x 0 ≡ mark → ⊥) → Fitting ls n i
  unfolding distinct
  mark-new k q = record {
    inside = omega arith;
    below = λ l g. pick l (cases_cons (rw (one_on ls i h) at g));
    once = ap distinct (variables_on ls i h) ∙ and_of (ap not absent) (subst (Fitting ls n) s p).once;
  }
    where
      absent : mem (get_or ls i 0 / 2) (variables_of (drop (i + 1) ls)) ≡ false
      absent = sym (met_is k) ∙ ne_eqb _ _ q

      pick : (l : ℕ) → (l ≡ get_or ls i 0) ⊎ Memᴰ l (drop (i + 1) ls) → l / 2 < n
      pick l (inl g) = rw g (omega (arith, e, k))
      pick l (inr g) = (subst (Fitting ls n) s p).below l g

-- ---- short clauses, without marks

-- two variables, and three, are below n and differ
abbrev two_fit : ℕ → ℕ → ℕ → Bool
two_fit n x y = (ltb x n && (ltb y n && true)) && (not (eqb x y || false) && true)

abbrev three_fit : ℕ → ℕ → ℕ → ℕ → Bool
three_fit n x y z = (ltb x n && (ltb y n && (ltb z n && true))) && (not (eqb x y || (eqb x z || false)) && (not (eqb y z || false) && true))

module _ (n : ℕ) where
  pub two_is : (ls : List ℕ) {x y : ℕ} → length ls ≡ 2 → x ≡ get_or ls 0 0 / 2 → y ≡ get_or ls 1 0 / 2 → clause_fits n ls ≡ two_fit n x y
  unfolding clause_fits distinct mem
  two_is (a ∷ b ∷ []) e p q = rw (p, q)
  two_is (a ∷ b ∷ c ∷ ls) e p q = absurd (omega arith)
  two_is (a ∷ []) e p q = absurd (omega arith)
  two_is [] e p q = absurd (omega arith)

  pub three_is : (ls : List ℕ) {x y z : ℕ} → length ls ≡ 3 → x ≡ get_or ls 0 0 / 2 → y ≡ get_or ls 1 0 / 2 → z ≡ get_or ls 2 0 / 2 → clause_fits n ls ≡ three_fit n x y z
  unfolding clause_fits distinct mem
  three_is (a ∷ b ∷ c ∷ []) e p q r = rw (p, q, r)
  three_is (a ∷ b ∷ c ∷ d ∷ ls) e p q r = absurd (omega arith)
  three_is (a ∷ b ∷ []) e p q r = absurd (omega arith)
  three_is (a ∷ []) e p q r = absurd (omega arith)
  three_is [] e p q r = absurd (omega arith)

-- ---- whether a list fits

pub record Judging (ws : List ℕ) (n at : ℕ) : Type 0 where
  pub inside : at ≤ length ws
  pub meets : (whole ws && all (clause_fits n) (clauses_in ws)) ≡ (whole (drop at ws) && all (clause_fits n) (clauses_in (drop at ws)))

pub judging : (ws : List ℕ) (n : ℕ) → Judging ws n 0
judging ws n = record { inside = omega arith; meets = refl }

module _ {ws : List ℕ} {n at : ℕ} (p : Judging ws n at) where
  -- the clause at `at`, and what comes after it
  at-clause : at < length ws → (whole ws && all (clause_fits n) (clauses_in ws))
      ≡ ((leb (get_or ws at 0) (length ws - (at + 1)) && whole (drop (at + 1 + get_or ws at 0) ws)) && (clause_fits n (take (get_or ws at 0) (drop (at + 1) ws)) && all (clause_fits n) (clauses_in (drop (at + 1 + get_or ws at 0) ws))))
  at-clause h = p.meets ∙ rw (drop-cons ws at 0 h, whole-cons, clauses_cons, ← add-one at, length-drop, drop-drop)

  pub judge_short : at < length ws → length ws - (at + 1) < get_or ws at 0 → false ≡ (whole ws && all (clause_fits n) (clauses_in ws))
  judge_short h k = sym (at-clause h ∙ rw (lt-leb _ _ k))

  module _ {end : ℕ} (h : at < length ws) (k : get_or ws at 0 ≤ length ws - (at + 1)) (e : end ≡ at + 1 + get_or ws at 0) where
    at-whole : (whole ws && all (clause_fits n) (clauses_in ws)) ≡ (whole (drop end ws) && (clause_fits n (take (end - (at + 1)) (drop (at + 1) ws)) && all (clause_fits n) (clauses_in (drop end ws))))
    at-whole = let size : end - (at + 1) ≡ get_or ws at 0 = omega arith in at-clause h ∙ rw (le-leb _ _ k, size, e)

    pub judge_unfit : clause_fits n (take (end - (at + 1)) (drop (at + 1) ws)) ≡ false → false ≡ (whole ws && all (clause_fits n) (clauses_in ws))
    judge_unfit f = sym (at-whole ∙ rw f (and-false (whole (drop end ws))))

    pub judge_on : clause_fits n (take (end - (at + 1)) (drop (at + 1) ws)) ≡ true → Judging ws n end
    judge_on f = record { inside = omega arith; meets = at-whole ∙ rw f }

  pub judge_all : length ws ≤ at → true ≡ (whole ws && all (clause_fits n) (clauses_in ws))
  judge_all h = sym (p.meets ∙ rw (drop_of_length-le ws h, whole-nil, clauses_nil))
