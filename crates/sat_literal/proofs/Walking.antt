-- Laws for a walk over the clauses of a list: before a clause, and the clause that stands there. Assumes nothing.
use mathlib.Core.Path.{◌≡◌, refl, sym, subst}
use mathlib.Core.Logic.{◌⊎◌}
use mathlib.Core.Bool.{true, ◌&&◌}
use mathlib.Core.List.Memᴰ.{cases_cons}
use mathlib.Core.List.Memᴰ.{not-nil}
use mathlib.Core.List.{List, [], ◌∷◌, ◌++◌, Memᴰ}
use Prim.Native.Nat.{ℕ, zero, suc, ◌+◌, ◌-◌, ◌/◌, ◌≤◌, ◌<◌}
use native.Mathlib.Nat.{zero-add, suc-add}
use native.Mathlib.Numerals.{add-one}
use native.Mathlib.Omega.{arith}
use lib.ListN.{length, get_or, take, drop, length-drop, drop_of_length-le}
use lib.Seq.{slice, drop-cons, drop-drop, take-nil}
use Rattle.std.proofs.Math.Seq.{take-append_seam, drop-append_seam}
use Rattle.std.proofs.lemmas.List.{take_all}
use lib.Dec.{leb}
use borrow.Author.Tests.{leb-true}
use Rattle.lists.proofs.Members.{and-true, get_d_mem}
use Rattle.cnf.specs.Clauses.{clauses_in, whole}
use Rattle.cnf.specs.Closing.{Formed}
use Rattle.cnf.proofs.Words.{clauses_nil, clauses_cons, whole-cons}
use Rattle.sat_literal.specs.Literals.{clause_at, Over}

take-drop : (a k : ℕ) (l : List ℕ) → take k (drop a l) ≡ drop a (take (a + k) l)
take-drop zero k l = rw zero-add
take-drop (suc a) k [] = rw (suc-add, take-nil)
take-drop (suc a) k (x ∷ l) = rw suc-add (take-drop a k l)

-- the part of a list that the code lends
pub lent-part : (a b : ℕ) (l : List ℕ) → a ≤ b → take (b - a) (drop a l) ≡ slice a b l
lent-part a b l h = let sum : a + (b - a) ≡ b = omega arith in rw sum at (take-drop a (b - a) l)

-- before the clause at `at`: the clauses from there on are whole, and clauses of the list
pub record Before (ws : List ℕ) (at : ℕ) : Type 0 where
  pub inside : at ≤ length ws
  pub all_there : whole (drop at ws) ≡ true
  pub part : (c : List ℕ) → Memᴰ c (clauses_in (drop at ws)) → Memᴰ c (clauses_in ws)

pub before-first : {ws : List ℕ} → whole ws ≡ true → Before ws 0
before-first w = record { inside = omega arith; all_there = w; part = λ c m. m }

-- none is left
pub none_left : (ws : List ℕ) (at : ℕ) → length ws ≤ at → (c : List ℕ) → Memᴰ c (clauses_in (drop at ws)) → ⊥
none_left ws at h c m = not-nil (rw (drop_of_length-le ws h, clauses_nil) at m)

-- the words that the code lends are the clause
pub clause-words : (ws : List ℕ) (at : ℕ) {k : ℕ} → k ≡ get_or ws at 0 → take (at + 1 + k - (at + 1)) (drop (at + 1) ws) ≡ clause_at ws at
clause-words ws at {k} e =
    let size : at + 1 + k - (at + 1) ≡ k = omega arith in
    rw (size, take-drop, e)

module _ {ws : List ℕ} {at : ℕ} (b : Before ws at) (h : at < length ws) where
  at-whole : (leb (get_or ws at 0) (length (drop (at + 1) ws)) && whole (drop (at + 1 + get_or ws at 0) ws)) ≡ true
  at-whole = rw (drop-cons ws at 0 h, whole-cons, ← add-one at, drop-drop) at b.all_there

  pub end_inside : at + 1 + get_or ws at 0 ≤ length ws
  end_inside = omega (arith, leb-true (get_or ws at 0) (length (drop (at + 1) ws)) (and-true (leb (get_or ws at 0) (length (drop (at + 1) ws))) (whole (drop (at + 1 + get_or ws at 0) ws)) at-whole).0, length-drop (at + 1) ws)

  pub at_clauses : clauses_in (drop at ws) ≡ clause_at ws at ∷ clauses_in (drop (at + 1 + get_or ws at 0) ws)
  at_clauses = rw (drop-cons ws at 0 h, clauses_cons, ← add-one at, drop-drop, take-drop)

  -- the clause is one of the list
  pub clause_in : Memᴰ (clause_at ws at) (clauses_in ws)
  clause_in = b.part (clause_at ws at) (rw at_clauses (Memᴰ.head refl))

  pub clause_cases : (c : List ℕ) → Memᴰ c (clauses_in (drop at ws)) → (c ≡ clause_at ws at) ⊎ Memᴰ c (clauses_in (drop (at + 1 + get_or ws at 0) ws))
  clause_cases c m = cases_cons (rw at_clauses at m)

  -- before the next one
  pub before-next : Before ws (at + 1 + get_or ws at 0)
  before-next = record {
    inside = end_inside;
    all_there = (and-true (leb (get_or ws at 0) (length (drop (at + 1) ws))) (whole (drop (at + 1 + get_or ws at 0) ws)) at-whole).1;
    part = λ c m. b.part c (rw at_clauses (Memᴰ.tail m));
  }

-- the first clause of whole ones, and the rest
module _ (ws : List ℕ) (w : whole ws ≡ true) (h : 0 < length ws) where
  pub first_inside : 1 + get_or ws 0 0 ≤ length ws
  first_inside = omega (arith, end_inside (before-first w) h)

  first_rest : whole (drop (1 + get_or ws 0 0) ws) ≡ true
  first_rest = (before-next (before-first w) h).all_there

  -- as the code lends it
  pub first_left : (k : ℕ) → k ≡ get_or ws 0 0 → whole (take (length ws - (1 + k)) (drop (1 + k) ws)) ≡ true
  first_left k e = rw (take_all (length ws - (1 + k)) (drop (1 + k) ws) (omega (arith, length-drop (1 + k) ws)), e) first_rest

-- the literal at a place of a clause
pub over_at : {c : List ℕ} {n : ℕ} → Over c n → (l k : ℕ) → k < length c → l ≡ get_or c k l → l / 2 < n
over_at {c} o l k h e = o l (subst (λ (x : ℕ). Memᴰ x c) (sym e) (get_d_mem c k l h))

-- a step of the walk takes the first clause
module _ (ws c rest : List ℕ) (e : ws ≡ length c ∷ (c ++ rest)) where
  pub clauses_on : clauses_in ws ≡ c ∷ clauses_in rest
  clauses_on = rw (e, clauses_cons, take-append_seam, drop-append_seam)

  pub whole_on : whole ws ≡ true → whole rest ≡ true
  whole_on w = (and-true (leb (length c) (length (c ++ rest))) (whole rest) (rw (e, whole-cons, drop-append_seam) at w)).1

  -- their variables are below n
  pub over_on : {n : ℕ} → Formed (clauses_in ws) n → Over c n
  over_on f = f.below c (rw clauses_on (Memᴰ.head refl))

  pub formed_on : {n : ℕ} → Formed (clauses_in ws) n → Formed (clauses_in rest) n
  formed_on f = record { below = λ d m. f.below d (rw clauses_on (Memᴰ.tail m)) }

-- and its end comes where none is left
pub clauses_end : (ws : List ℕ) → length ws ≡ 0 → clauses_in ws ≡ []
clauses_end [] e = clauses_nil
clauses_end (x ∷ xs) e = absurd (omega (arith, e))
