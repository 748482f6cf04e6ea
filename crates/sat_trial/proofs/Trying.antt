-- Laws for trying the values against the clauses: the literals of a clause, the clauses of a list, what is held, and a count. Assumes nothing.
use mathlib.Core.Path.{◌≡◌, refl, sym, ap, ◌∙◌}
use mathlib.Core.Bool.{Bool, true, false, ◌&&◌}
use Rattle.std.proofs.Common.{count_by, cond, not}
use Rattle.std.proofs.lemmas.List.Sums.{sum_by-cons}
use mathlib.Core.List.{List, [], ◌∷◌, ◌++◌, append-nil}
use Prim.Native.Nat.{ℕ, suc, ◌+◌, ◌/◌, ◌%◌, ◌≤◌, ◌<◌}
use native.Mathlib.Omega.{arith}
use lib.ListN.{length, get_or, take, drop, set, length-replicate, get_or-replicate, drop_of_length-le}
use lib.Seq.{drop-cons, get_or-append_seam, length-take-le}
use lib.Dec.{eqb}
use borrow.Author.Tests.{eqb-true, eqb-false}
use Rattle.lists.specs.Lists.{any, filter, over}
use Rattle.lists.proofs.Members.{get_d_any, get_d_map}
use Rattle.lists.proofs.Copying.{Writing, writing, same_length, write_on, write_all}
use Rattle.cnf.specs.Clauses.{value_of}
use Rattle.cnf.specs.Search.{is_right}
use Rattle.cnf.specs.Trials.{only_true, satisfied, not_false}
use Rattle.cnf.proofs.Trials.{length-only, only_one, only_zero}
use Rattle.sat_trial.specs.Trial.{held_value, held_if}

-- ---- how many are not false

count_filter : (p : ℕ → Bool) (v : List ℕ) → count_by p v ≡ length (filter p v)
unfolding filter
count_filter p [] = refl
count_filter p (y ∷ v) = sum_by-cons (λ x. cond (p x) 1 0) y v ∙ go (p y) (count_filter p v)
  where
    go : (b : Bool) → count_by p v ≡ length (filter p v) → cond b 1 0 + count_by p v ≡ length (elim b as (λ _. List ℕ) [ true ↦ y ∷ filter p v | false ↦ filter p v ])
    go true ih = omega (arith, ih)
    go false ih = omega (arith, ih)

pub count_not_false : (v : List ℕ) → count_by (λ y. not (eqb y 0)) v ≡ not_false v
unfolding not_false
count_not_false v = count_filter (λ y. not (eqb y 0)) v

-- ---- a literal

module _ (v : List ℕ) (l : ℕ) {x : ℕ} (e : x ≡ l / 2) (h : x < length v) where
  same_value : value_of v (l / 2) ≡ get_or v x 0
  same_value = ap (value_of v) (sym e) ∙ get_d_any v x 2 0 h

  pub literal-true : get_or v x 0 ≡ 1 → eqb (l % 2) 0 ≡ is_right (only_true v) l
  unfolding is_right
  literal-true k = rw (only_one v (l / 2) (same_value ∙ k)) (go (eqb (l % 2) 0) (eqb (1 + l % 2) 1) refl refl)
    where
      go : (s t : Bool) → eqb (l % 2) 0 ≡ s → eqb (1 + l % 2) 1 ≡ t → s ≡ t
      go true true p q = refl
      go true false p q = absurd (eqb-false (1 + l % 2) 1 q (omega (arith, eqb-true (l % 2) 0 p)))
      go false true p q = absurd (eqb-false (l % 2) 0 p (omega (arith, eqb-true (1 + l % 2) 1 q)))
      go false false p q = refl

  pub literal-other : (get_or v x 0 ≡ 1 → ⊥) → eqb (l % 2) 1 ≡ is_right (only_true v) l
  unfolding is_right
  literal-other n = let plain : l % 2 ≡ 0 + l % 2 = omega arith in rw (only_zero v (l / 2) (omega arith) (λ k. n (sym same_value ∙ k))) (ap (λ (k : ℕ). eqb k 1) plain)

-- ---- the clauses of a list

pub satisfied_on : (a c : List ℕ) (cs : List (List ℕ)) → satisfied (c ∷ cs) a ≡ (any (is_right a) c && satisfied cs a)
unfolding satisfied
satisfied_on a c cs = refl

pub satisfied_none : (a : List ℕ) → true ≡ satisfied [] a
unfolding satisfied
satisfied_none a = refl

-- ---- what is held

pub length-held : (t : Bool) (v : List ℕ) → length (held_if t v) ≡ length v
length-held true v = length-only v
length-held false v = length-replicate (length v) 0

held_at : (t : Bool) (v : List ℕ) (i : ℕ) → i < length v → get_or (held_if t v) i 0 ≡ held_value (get_or v i 0) t
held_at true v i h = unfold only_true in get_d_map _ v i 0 0 h
held_at false v i h = get_or-replicate (length v) i 0 0 h

pub holding : (t : Bool) (v : List ℕ) → Writing (held_if t v) v v 0
holding t v = writing (omega (arith, length-held t v))

module _ (t : Bool) {v₀ v : List ℕ} {i : ℕ} (w : Writing (held_if t v₀) v₀ v i) where
  module _ (h : i < length v) where
    inner : i < length v₀
    inner = omega (arith, same_length w)

    not_yet : get_or v i 0 ≡ get_or v₀ i 0
    not_yet =
        let size : length (take i (held_if t v₀)) ≡ i = length-take-le i (held_if t v₀) w.inside in
        ap (λ (u : List ℕ). get_or u i 0) (w.meets ∙ ap (λ (u : List ℕ). take i (held_if t v₀) ++ u) (drop-cons v₀ i 0 inner))
        ∙ ap (λ (k : ℕ). get_or (take i (held_if t v₀) ++ get_or v₀ i 0 ∷ drop (suc i) v₀) k 0) (sym size)
        ∙ get_or-append_seam (take i (held_if t v₀)) (get_or v₀ i 0) (drop (suc i) v₀) 0

    pub hold_on : {y : ℕ} → y ≡ held_value (get_or v i 0) t → Writing (held_if t v₀) v₀ (set v i y) (i + 1)
    hold_on e = rw (e, not_yet, ← held_at t v₀ i inner) (write_on w (omega (arith, length-held t v₀, inner)))

  pub hold_all : length v ≤ i → v ≡ held_if t v₀
  unfolding over
  hold_all h =
      let long : length v₀ ≤ length (held_if t v₀) = omega (arith, length-held t v₀) in
      write_all w (omega (arith, length-held t v₀, same_length w)) ∙ rw (drop_of_length-le v₀ long) (append-nil (held_if t v₀))
