-- A clause tidied literal by literal is the tidy clause, and a clause with its premises first. Assumes nothing.
use mathlib.Core.Path.{◌≡◌, refl, sym, ap, ◌∙◌, subst}
use mathlib.Core.Logic.{◌⊎◌, inl, inr, ◌≢◌}
use mathlib.Core.Bool.{Bool, true, false, ◌||◌, or_comm, true≢false}
use mathlib.Core.List.Memᴰ
use mathlib.Core.List.Memᴰ.{append_cases}
use mathlib.Core.List.Memᴰ.{cases_cons}
use mathlib.Core.List.Memᴰ.{eq_of_singleton}
use mathlib.Core.List.Memᴰ.{not-nil}
use mathlib.Core.List.{List, [], ◌∷◌, ◌++◌, append_assoc, append-nil, map, Memᴰ}
use Prim.Native.Nat.{ℕ, suc, ◌%◌, ◌<◌, ◌≤◌}
use native.Mathlib.Omega.{arith}
use native.Mathlib.Decide.{dec_lt}
use lib.Dec.{eqb}
use borrow.Author.Tests.{eq-eqb, ne_eqb, eqb-true}
use Rattle.lists.specs.Lists.{any, mem}
use Rattle.lists.proofs.Members.{or-true, or-false, any-true, any_false, mem-true, mem_of, mem-false, mem-snoc}
use Rattle.pairs.specs.Pairs.{variable_of}
use Rattle.pairs.specs.Triangles.{together, apart}
use Rattle.pairs.proofs.Pairs.{variable_sym, variable_injective}
use Rattle.clauses_spec.specs.Clauses.{opposite, once, tidy, premise, matching}
use Rattle.clauses_spec.proofs.Tidy.{opposite_half, opposite_sign}
use Rattle.clauses_emit.specs.Emit.{with_literal, with_all, tidy_from, matching_from, leaves, Ascending, Negative}
use Rattle.clauses_emit.specs.Emit.Ascending.{none, next}

opposite_twice : (l : ℕ) → opposite (opposite l) ≡ l
opposite_twice l = omega (arith, opposite_half (opposite l), opposite_half l, opposite_sign (opposite l), opposite_sign l)

-- ---- one literal more

with_mem : (kept : List ℕ) (l x : ℕ) → Memᴰ x kept ⊎ (x ≡ l) → Memᴰ x (with_literal kept l)
unfolding with_literal
with_mem kept l x h = go (mem l kept) refl h
  where
    go : (t : Bool) → mem l kept ≡ t → Memᴰ x kept ⊎ (x ≡ l) → Memᴰ x (elim t [ true ↦ kept | false ↦ kept ++ (l ∷ []) ])
    go true e (inl m) = m
    go true e (inr p) = subst (λ (y : ℕ). Memᴰ y kept) (sym p) (mem-true l kept e)
    go false e (inl m) = Memᴰ.append_left (l ∷ []) m
    go false e (inr p) = Memᴰ.append_right kept (Memᴰ.head p)

mem_with : (kept : List ℕ) (l x : ℕ) → Memᴰ x (with_literal kept l) → Memᴰ x kept ⊎ (x ≡ l)
unfolding with_literal
mem_with kept l x m = go (mem l kept) m
  where
    last : Memᴰ x kept ⊎ Memᴰ x (l ∷ []) → Memᴰ x kept ⊎ (x ≡ l)
    last (inl k) = inl k
    last (inr k) = inr (eq_of_singleton k)

    go : (t : Bool) → Memᴰ x (elim t [ true ↦ kept | false ↦ kept ++ (l ∷ []) ]) → Memᴰ x kept ⊎ (x ≡ l)
    go true k = inl k
    go false k = last (append_cases kept k)

not-mem : (x : ℕ) (xs : List ℕ) → ((y : ℕ) → Memᴰ y xs → x ≢ y) → mem x xs ≡ false
not-mem x xs h = go (mem x xs) refl
  where
    go : (t : Bool) → mem x xs ≡ t → mem x xs ≡ false
    go true e = absurd (h x (mem-true x xs e) refl)
    go false e = e

-- ---- a tautology

-- a literal to come and its opposite among those kept and those to come
record Both (kept ls : List ℕ) : Type 0 where
  pub one : ℕ
  pub to_come : Memᴰ one ls
  pub other : Memᴰ (opposite one) kept ⊎ Memᴰ (opposite one) ls

left_out : (kept ls : List ℕ) → Both kept ls → tidy_from kept ls ≡ []
unfolding tidy_from
left_out kept [] b = absurd (not-nil b.to_come)
left_out kept (y ∷ ys) b = go (mem (opposite y) kept) refl (left_out (with_literal kept y) ys)
  where
    later : (x : ℕ) → Memᴰ x kept ⊎ ((x ≡ y) ⊎ Memᴰ x ys) → Memᴰ x (with_literal kept y) ⊎ Memᴰ x ys
    later x (inl m) = inl (with_mem kept y x (inl m))
    later x (inr (inl e)) = inl (with_mem kept y x (inr e))
    later x (inr (inr m)) = inr m

    split : {x : ℕ} → Memᴰ x kept ⊎ Memᴰ x (y ∷ ys) → Memᴰ x kept ⊎ ((x ≡ y) ⊎ Memᴰ x ys)
    split (inl m) = inl m
    split (inr m) = inr (cases_cons m)

    first : mem (opposite y) kept ≡ false → b.one ≡ y → Memᴰ (opposite b.one) kept ⊎ ((opposite b.one ≡ y) ⊎ Memᴰ (opposite b.one) ys) → Both (with_literal kept y) ys
    first e p (inl m) = absurd (mem-false (opposite y) kept e (opposite b.one) m (ap opposite (sym p)))
    first e p (inr (inl q)) = absurd (omega (arith, opposite_sign b.one))
    first e p (inr (inr m)) = record { one = opposite b.one; to_come = m; other = inl (with_mem kept y (opposite (opposite b.one)) (inr (opposite_twice b.one ∙ p))) }

    on : mem (opposite y) kept ≡ false → (b.one ≡ y) ⊎ Memᴰ b.one ys → Both (with_literal kept y) ys
    on e (inl p) = first e p (split b.other)
    on e (inr m) = record { one = b.one; to_come = m; other = later (opposite b.one) (split b.other) }

    go :
        (t : Bool) → mem (opposite y) kept ≡ t → (Both (with_literal kept y) ys → tidy_from (with_literal kept y) ys ≡ [])
        → ◌≡◌ {A = List (List ℕ)} (elim t [ true ↦ [] | false ↦ tidy_from (with_literal kept y) ys ]) []
    go true e ih = refl
    go false e ih = ih (on e (cases_cons b.to_come))

-- ---- no tautology

written_once :
    (before kept ls : List ℕ) → ((x : ℕ) → mem x before ≡ mem x kept) → ((l x : ℕ) → Memᴰ l ls → Memᴰ x kept ⊎ Memᴰ x ls → opposite l ≢ x)
    → tidy_from kept ls ≡ (kept ++ once before ls) ∷ []
unfolding tidy_from once
written_once before kept [] same h = sym (ap (λ ls. ls ∷ []) (append-nil kept))
written_once before kept (l ∷ ls) same h =
    go (mem l kept) refl (written_once before kept ls same (λ y x m k. h y x (Memᴰ.tail m) (wider k))) (written_once (l ∷ before) (kept ++ (l ∷ [])) ls more (λ y x m k. h y x (Memᴰ.tail m) (behind (append-or k))))
  where
    wider : {x : ℕ} → Memᴰ x kept ⊎ Memᴰ x ls → Memᴰ x kept ⊎ Memᴰ x (l ∷ ls)
    wider (inl m) = inl m
    wider (inr m) = inr (Memᴰ.tail m)

    append-or : {x : ℕ} → Memᴰ x (kept ++ (l ∷ [])) ⊎ Memᴰ x ls → (Memᴰ x kept ⊎ Memᴰ x (l ∷ [])) ⊎ Memᴰ x ls
    append-or (inl m) = inl (append_cases kept m)
    append-or (inr m) = inr m

    behind : {x : ℕ} → (Memᴰ x kept ⊎ Memᴰ x (l ∷ [])) ⊎ Memᴰ x ls → Memᴰ x kept ⊎ Memᴰ x (l ∷ ls)
    behind (inl (inl m)) = inl m
    behind (inl (inr m)) = inr (Memᴰ.head (eq_of_singleton m))
    behind (inr m) = inr (Memᴰ.tail m)

    more : (x : ℕ) → mem x (l ∷ before) ≡ mem x (kept ++ (l ∷ []))
    more x = unfold mem in (ap (λ (t : Bool). eqb x l || t) (same x) ∙ or_comm (eqb x l) (mem x kept) ∙ sym (mem-snoc x l kept))

    none : mem (opposite l) kept ≡ false
    none = not-mem (opposite l) kept (λ x m. h l x (Memᴰ.head refl) (inl m))

    go : (t : Bool) → mem l kept ≡ t → tidy_from kept ls ≡ (kept ++ once before ls) ∷ [] → tidy_from (kept ++ (l ∷ [])) ls ≡ ((kept ++ (l ∷ [])) ++ once (l ∷ before) ls) ∷ []
        → tidy_from kept (l ∷ ls) ≡ (kept ++ once before (l ∷ ls)) ∷ []
    go true e a b = unfold with_literal in rw (none, tidy_from, e, with_literal, same l, once, e) a
    go false e a b = unfold with_literal in rw (none, tidy_from, e, with_literal, same l, once, e) (b ∙ ap (λ xs. xs ∷ []) (append_assoc kept (l ∷ []) (once (l ∷ before) ls)))

pub tidy-from : (ls : List ℕ) → tidy ls ≡ tidy_from [] ls
unfolding tidy
tidy-from ls = go (any (λ l. mem (opposite l) ls) ls) refl
  where
    both : (l : ℕ) × Memᴰ l ls × (mem (opposite l) ls ≡ true) → Both [] ls
    both r = record { one = r.0; to_come = r.1; other = inr (mem-true (opposite r.0) ls r.2) }

    apart_from : any (λ l. mem (opposite l) ls) ls ≡ false → (l x : ℕ) → Memᴰ l ls → Memᴰ x [] ⊎ Memᴰ x ls → opposite l ≢ x
    apart_from e l x m (inl k) = absurd (not-nil k)
    apart_from e l x m (inr k) = mem-false (opposite l) ls (any_false (λ l. mem (opposite l) ls) ls e l m) x k

    go : (t : Bool) → any (λ l. mem (opposite l) ls) ls ≡ t → elim t as (λ _. List (List ℕ)) [ true ↦ [] | false ↦ once [] ls ∷ [] ] ≡ tidy_from [] ls
    go true e = sym (left_out [] ls (both (any-true (λ l. mem (opposite l) ls) ls e)))
    go false e = sym (written_once [] [] ls (λ x. refl) (apart_from e))

-- ---- premises first: every literal of theirs says "false"

premises_first : (kept ps rest : List ℕ) → Negative kept → Negative ps → tidy_from kept (ps ++ rest) ≡ tidy_from (with_all kept ps) rest
unfolding tidy_from with_all
premises_first kept [] rest h k = refl
premises_first kept (l ∷ ps) rest h k =
    let even : mem (opposite l) kept ≡ false = not-mem (opposite l) kept (λ x m e. let a = h x m in let b = k l (Memᴰ.head refl) in omega (arith, opposite_sign l)) in
    rw (even, tidy_from) (premises_first (with_literal kept l) ps rest (λ x m. odd x (mem_with kept l x m)) (λ x m. k x (Memᴰ.tail m)))
  where
    odd : (x : ℕ) → Memᴰ x kept ⊎ (x ≡ l) → x % 2 ≡ 1
    odd x (inl m) = h x m
    odd x (inr e) = ap (λ y. y % 2) e ∙ k l (Memᴰ.head refl)

pub premise-negative : (p q : ℕ) → Negative (premise p q)
unfolding premise
premise-negative p q x = go (eqb p q)
  where
    go : (t : Bool) → Memᴰ x (elim t [ true ↦ [] | false ↦ apart p q ∷ [] ]) → x % 2 ≡ 1
    go true m = absurd (not-nil m)
    go false m = let e = eq_of_singleton m in omega arith

pub with_negative : (kept ps : List ℕ) → Negative kept → Negative ps → Negative (with_all kept ps)
unfolding with_all
with_negative kept [] h k = h
with_negative kept (l ∷ ps) h k = with_negative (with_literal kept l) ps (λ x m. odd x (mem_with kept l x m)) (λ x m. k x (Memᴰ.tail m))
  where
    odd : (x : ℕ) → Memᴰ x kept ⊎ (x ≡ l) → x % 2 ≡ 1
    odd x (inl m) = h x m
    odd x (inr e) = ap (λ y. y % 2) e ∙ k l (Memᴰ.head refl)

with_append : (kept ps qs : List ℕ) → with_all kept (ps ++ qs) ≡ with_all (with_all kept ps) qs
unfolding with_all
with_append kept [] qs = refl
with_append kept (l ∷ ps) qs = with_append (with_literal kept l) ps qs

matching-first : (ps : List ℕ) (p' : ℕ) (qs : List ℕ) → Negative ps → matching ps p' qs ≡ matching_from (with_all [] ps) p' qs
unfolding matching matching_from
matching-first ps p' qs h = ap (λ (cs : List (List ℕ)). elim (mem p' qs) as (λ _. List (List ℕ)) [ true ↦ [] | false ↦ cs ]) (tidy-from (ps ++ map (together p') qs) ∙ premises_first [] ps (map (together p') qs) (λ x m. absurd (not-nil m)) h)

-- one premise, for a move; two, for a return
pub matching-one : (p q p' : ℕ) (qs : List ℕ) → matching (premise p q) p' qs ≡ matching_from (with_all [] (premise p q)) p' qs
matching-one p q p' qs = matching-first (premise p q) p' qs (premise-negative p q)

pub matching-two : (p q s u p' : ℕ) (qs : List ℕ) → matching (premise p q ++ premise s u) p' qs ≡ matching_from (with_all (with_all [] (premise p q)) (premise s u)) p' qs
matching-two p q s u p' qs =
    matching-first (premise p q ++ premise s u) p' qs (λ x m. either x (append_cases (premise p q) m))
    ∙ ap (λ kept. matching_from kept p' qs) (with_append [] (premise p q) (premise s u))
  where
    either : (x : ℕ) → Memᴰ x (premise p q) ⊎ Memᴰ x (premise s u) → x % 2 ≡ 1
    either x (inl m) = premise-negative p q x m
    either x (inr m) = premise-negative s u x m

-- ---- the clause of literals kept and of targets that ascend: left out by one of them, or all its literals as they come

-- a state has a variable of its own with each other one
together-apart : (p q r : ℕ) → q ≢ p → r ≢ p → q < r → together p q ≢ together p r
together-apart p q r a b l e = go (dec_lt p q) (dec_lt p r)
  where
    halves : variable_of p q ≡ variable_of p r
    halves = omega (arith, e)

    go : Dec (p < q) → Dec (p < r) → ⊥
    go (yes c) (yes d) = omega (arith, (variable_injective p q p r c d halves).1)
    go (yes c) (no d) = omega arith
    go (no c) (yes d) = omega (arith, b, (variable_injective q p p r (omega (arith, a)) d (variable_sym q p ∙ halves)).0)
    go (no c) (no d) = omega (arith, (variable_injective q p r p (omega (arith, a)) (omega (arith, b)) (variable_sym q p ∙ halves ∙ variable_sym p r)).0)

ascending-from : {m : ℕ} {qs : List ℕ} → Ascending m qs → (q : ℕ) → Memᴰ q qs → m ≤ q
ascending-from none q k = absurd (not-nil k)
ascending-from {m} (next {q = r} {qs = rs} l up) q k = go (cases_cons k) (ascending-from up q)
  where
    go : (q ≡ r) ⊎ Memᴰ q rs → (Memᴰ q rs → suc r ≤ q) → m ≤ q
    go (inl e) ih = omega arith
    go (inr k) ih = omega (arith, ih k)

-- no literal is repeated
once-all : (p' : ℕ) {m : ℕ} (before : List ℕ) {qs : List ℕ} → Ascending m qs → ((q : ℕ) → Memᴰ q qs → q ≢ p') → ((q : ℕ) → Memᴰ q qs → mem (together p' q) before ≡ false)
    → once before (map (together p') qs) ≡ map (together p') qs
unfolding once
once-all p' before none d h = refl
once-all p' before (next {q = q} {qs = qs} l up) d h =
    rw (h q (Memᴰ.head refl), once) (ap (λ ls. together p' q ∷ ls) (once-all p' (together p' q ∷ before) up (λ r m. d r (Memᴰ.tail m)) later))
  where
    later : (r : ℕ) → Memᴰ r qs → mem (together p' r) (together p' q ∷ before) ≡ false
    later r m = unfold mem in
        rw (ne_eqb (together p' r) (together p' q) (λ e. together-apart p' q r (d q (Memᴰ.head refl)) (d r (Memᴰ.tail m)) (ascending-from up r m) (sym e))) (h r (Memᴰ.tail m))

module _ (kept : List ℕ) (p' : ℕ) (qs : List ℕ) where
  abbrev literals : List ℕ
  literals = map (together p') qs

  -- "Left out if some q' = p'"; "A clause with a variable both ways is left out."
  pub matching-left : any (leaves kept p') qs ≡ true → matching_from kept p' qs ≡ []
  unfolding matching_from leaves
  matching-left e = let r = any-true (leaves kept p') qs e in go r.0 r.1 (or-true (eqb r.0 p') (mem (opposite (together p' r.0)) kept) r.2)
    where
      unless : (t : Bool) → tidy_from kept literals ≡ [] → ◌≡◌ {A = List (List ℕ)} (elim t [ true ↦ [] | false ↦ tidy_from kept literals ]) []
      unless true f = refl
      unless false f = f

      go : (q : ℕ) → Memᴰ q qs → (eqb q p' ≡ true) ⊎ (mem (opposite (together p' q)) kept ≡ true) → matching_from kept p' qs ≡ []
      go q m (inl f) = let g : mem p' qs ≡ true = mem_of p' qs (subst (λ (x : ℕ). Memᴰ x qs) (eqb-true q p' f) m) in rw (g, matching_from)
      go q m (inr f) = unless (mem p' qs) (left_out kept literals (record { one = together p' q; to_come = Memᴰ.map (together p') m; other = inl (mem-true _ kept f) }))

  module _ (e : any (leaves kept p') qs ≡ false) where
    stays : (q : ℕ) → Memᴰ q qs → (q ≢ p') × (mem (opposite (together p' q)) kept ≡ false)
    unfolding leaves
    stays q m = let f = or-false (eqb q p') (mem (opposite (together p' q)) kept) (any_false (leaves kept p') qs e q m) in ((λ g. true≢false (sym (eq-eqb q p' g) ∙ f.0)), f.1)

    apart_from : (l x : ℕ) → Memᴰ l literals → Memᴰ x kept ⊎ Memᴰ x literals → opposite l ≢ x
    apart_from l x m (inl k) = let r = Memᴰ.of_map (together p') qs m in λ f. mem-false (opposite (together p' r.0)) kept (stays r.0 r.1).1 x k (ap opposite r.2 ∙ f)
    apart_from l x m (inr k) = let r = Memᴰ.of_map (together p') qs m in let s = Memᴰ.of_map (together p') qs k in λ f. omega (arith, opposite_sign l, r.2, s.2, f)

    pub matching-kept : {m : ℕ} → Negative kept → Ascending m qs → matching_from kept p' qs ≡ (kept ++ literals) ∷ []
    unfolding matching_from
    matching-kept n up =
        let other : mem p' qs ≡ false = not-mem p' qs (λ y m f. (stays y m).0 (sym f)) in
        let new : once kept literals ≡ literals = once-all p' kept up (λ q m. (stays q m).0) (λ q m. not-mem (together p' q) kept (λ y k f. omega (arith, n y k, f))) in
        rw (other, matching_from) (written_once kept kept literals (λ x. refl) apart_from ∙ ap (λ ls. (kept ++ ls) ∷ []) new)
