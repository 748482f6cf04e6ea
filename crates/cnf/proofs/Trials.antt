-- What the trials of a search are worth: the held one satisfies the clauses, no assignment that does has more true variables than the ceiling,
-- and the held trial is the latest satisfying one among the values before the guesses that stand. Assumes nothing.
use mathlib.Core.Path.{◌≡◌, refl, sym, ap, ◌∙◌, subst}
use mathlib.Core.Logic.{◌⊎◌, inl, inr, ◌≢◌}
use mathlib.Core.Bool.{Bool, true, false, ◌&&◌, not}
use mathlib.Core.List.{List, [], ◌∷◌, Memᴰ}
use mathlib.Core.Option.{Option, none, some}
use Prim.Native.Nat.{ℕ, zero, suc, ◌+◌, ◌*◌, ◌/◌, ◌≤◌, ◌<◌, zero-le, suc-le-suc}
use native.Mathlib.Nat.{le_trans, le-suc}
use native.Mathlib.Omega.{arith}
use native.Mathlib.Decide.{ℕ_discrete}
use lib.ListN.{length, set, replicate, length-map, length-replicate}
use lib.Seq.{ext_get_or}
use lib.Dec.{eqb, ltb}
use borrow.Author.Tests.{eqb-true, eqb-false, eq-eqb, ne_eqb, ltb-false}
use Rattle.lists.specs.Lists.{any, all, filter}
use Rattle.lists.proofs.Members.{any-true, any_of, all_true, all_of, filter-mem}
use Rattle.cnf.specs.Clauses.{value_of, Right, Assignment, Model, Horn}
use Rattle.cnf.specs.Search.{is_right, is_unset, by_unset, seen, both, scan, act, step, lowest_unset, State, Next, goes, ends, Outcome, solved, none_exists, spent, unfinished, Guess, undo, decide, search_from}
use Rattle.cnf.specs.Trials.{only_true, satisfied, true_count, not_false, Trials, better, ceiling_by, ceiling_of, rested, tried, Tried, run_tried, untried, search_tried}
use Rattle.cnf.specs.Closing.{Formed, Values, ◌⊑◌, Settled, holds, waits, AtRest, Closed, breaks, rests, Closes}
use Rattle.cnf.proofs.Values.{⊑_trans, set_more, set_below_lem, none_below}
use Rattle.cnf.proofs.Found.{right_is, right_of, unset_is, LowestUnset, lowest_is}
use Rattle.cnf.proofs.Steps.{state_of, guess_of, StepsTo, fails, undoes, forces, solves, spends, adds_guess, After, run-keeps}
use Rattle.cnf.proofs.Horn.{RightSoon, is_true, is_unset_lem, quiet_safe}
use Rattle.cnf.proofs.Closure.{closes-alike, members-rest, turn_to, at_start}
use Rattle.cnf.proofs.Trying.{TriesTo, there, turn, closed_trials, end_of, tried-outcome, tries_search, turns_tried}

-- ---- a trial

pub length-only : (v : List ℕ) → length (only_true v) ≡ length v
unfolding only_true
length-only v = length-map v _

pub only_one : (v : List ℕ) (i : ℕ) → value_of v i ≡ 1 → value_of (only_true v) i ≡ 1
unfolding only_true
only_one [] i e = absurd (omega arith)
only_one (y ∷ v) zero e = rw (eq-eqb y 1 e)
only_one (y ∷ v) (suc i) e = only_one v i e

pub only_zero : (v : List ℕ) (i : ℕ) → i < length v → value_of v i ≢ 1 → value_of (only_true v) i ≡ 0
unfolding only_true
only_zero [] i h e = absurd (omega arith)
only_zero (y ∷ v) zero h e = rw (ne_eqb y 1 e)
only_zero (y ∷ v) (suc i) h e = only_zero v i (omega arith) e

pub one_only : (v : List ℕ) (i : ℕ) → i < length v → value_of (only_true v) i ≡ 1 → value_of v i ≡ 1
one_only v i h e = go (ℕ_discrete (value_of v i) 1)
  where
    go : Dec (value_of v i ≡ 1) → value_of v i ≡ 1
    go (yes p) = p
    go (no p) = absurd (omega (arith, only_zero v i h p))

one_inside : (v : List ℕ) (i : ℕ) → value_of v i ≢ 2 → i < length v
one_inside [] i h = absurd (h refl)
one_inside (y ∷ v) zero h = omega arith
one_inside (y ∷ v) (suc i) h = suc-le-suc (one_inside v i h)

pub only-assigns : {n : ℕ} {v : List ℕ} → Values n v → Assignment n (only_true v)
only-assigns {n} {v} z = record { long = length-only v ∙ z.long; bit = λ i h. go i h (ℕ_discrete (value_of v i) 1) }
  where
    go : (i : ℕ) → i < n → Dec (value_of v i ≡ 1) → value_of (only_true v) i < 2
    go i h (yes e) = omega (arith, only_one v i e)
    go i h (no e) = omega (arith, only_zero v i (omega (arith, z.long)) e)

pub only-extends : {n : ℕ} {v : List ℕ} → Values n v → v ⊑ only_true v
only-extends {n} {v} z = record { keeps = λ i h. go i h (ℕ_discrete (value_of v i) 1) }
  where
    go : (i : ℕ) → value_of v i ≢ 2 → Dec (value_of v i ≡ 1) → value_of (only_true v) i ≡ value_of v i
    go i h (yes e) = only_one v i e ∙ sym e
    go i h (no e) = omega (arith, only_zero v i (one_inside v i h) e, z.small i)

-- an assignment with the same true variables
pub only_same : {n : ℕ} {v a : List ℕ} → Values n v → Assignment n a → ((i : ℕ) → value_of v i ≡ 1 → value_of a i ≡ 1) → ((i : ℕ) → value_of a i ≡ 1 → value_of v i ≡ 1) → only_true v ≡ a
only_same {n} {v} {a} z s up down = ext_get_or 2 (only_true v) a (length-only v ∙ z.long ∙ sym s.long) (λ i h. go i (omega (arith, length-only v, z.long)) (ℕ_discrete (value_of v i) 1))
  where
    go : (i : ℕ) → i < n → Dec (value_of v i ≡ 1) → value_of (only_true v) i ≡ value_of a i
    go i h (yes e) = only_one v i e ∙ sym (up i e)
    go i h (no e) = omega (arith, only_zero v i (omega (arith, z.long)) e, s.bit i h, other)
      where
        other : value_of a i ≢ 1
        other q = e (down i q)

-- ---- what satisfies the clauses

pub satisfied_model : {cs : List (List ℕ)} {n : ℕ} {a : List ℕ} → Assignment n a → satisfied cs a ≡ true → Model cs n a
unfolding satisfied
satisfied_model {cs} {n} {a} s e = record { assigns = s; each = λ c m. let r = any-true (is_right a) c (all_true (λ c. any (is_right a) c) cs e c m) in (r.0, r.1, right_is a r.0 r.2) }

pub model_satisfied : {cs : List (List ℕ)} {n : ℕ} {a : List ℕ} → Model cs n a → satisfied cs a ≡ true
unfolding satisfied
model_satisfied {cs} {n} {a} m = all_of (λ c. any (is_right a) c) cs (λ c k. let r = m.each c k in any_of (is_right a) c r.0 r.1 (right_of a r.0 r.2))

-- is at rest
pub model_rests : {cs : List (List ℕ)} {n : ℕ} {a : List ℕ} → Model cs n a → AtRest cs a
model_rests m = λ c k. let r = m.each c k in holds r.0 r.1 r.2

-- of clauses with at most one positive literal: at rest, they hold once every unset variable is false
pub horn_trial : {cs : List (List ℕ)} {n : ℕ} {v : List ℕ} → Horn cs → Formed cs n → Values n v → AtRest cs v → satisfied cs (only_true v) ≡ true
horn_trial {cs} {n} {v} horn f z q =
    model_satisfied (record { assigns = only-assigns z; each = λ c m. let r = (quiet_safe cs v horn q).each c m in (r.0, r.1, soon r.0 (omega (arith, f.below c m r.0 r.1, z.long)) r.2) })
  where
    by_value : (l : ℕ) → l / 2 < length v → Right v l → Dec (value_of v (l / 2) ≡ 1) → Right (only_true v) l
    by_value l b e (yes o) = omega (arith, only_one v (l / 2) o)
    by_value l b e (no o) = omega (arith, only_zero v (l / 2) b o)

    soon : (l : ℕ) → l / 2 < length v → RightSoon v l → Right (only_true v) l
    soon l b (is_true e) = by_value l b e (ℕ_discrete (value_of v (l / 2)) 1)
    soon l b (is_unset_lem o e) = omega (arith, only_zero v (l / 2) b (λ p. absurd (omega arith)))

-- ---- counts

-- of an assignment: what is not false is true
pub true-count : (a : List ℕ) → ((i : ℕ) → i < length a → value_of a i < 2) → true_count a ≡ not_false a
unfolding true_count not_false filter
true-count [] h = refl
true-count (y ∷ a) h = go (eqb 1 y) (eqb y 0) refl refl (true-count a (λ i l. h (suc i) (omega arith)))
  where
    go : (s t : Bool) → eqb 1 y ≡ s → eqb y 0 ≡ t → length (filter (eqb 1) a) ≡ length (filter (λ z. not (eqb z 0)) a)
        → length {A = ℕ} (elim s [ true ↦ y ∷ filter (eqb 1) a | false ↦ filter (eqb 1) a ]) ≡ length {A = ℕ} (elim (not t) [ true ↦ y ∷ filter (λ z. not (eqb z 0)) a | false ↦ filter (λ z. not (eqb z 0)) a ])
    go true true p q e = absurd (omega (arith, eqb-true 1 y p, eqb-true y 0 q))
    go true false p q e = ap suc e
    go false true p q e = e
    go false false p q e = absurd (omega (arith, eqb-false 1 y p, eqb-false y 0 q, h 0 (omega arith)))

pub nested_count : (h a : List ℕ) → length h ≡ length a → ((i : ℕ) → value_of h i ≡ 1 → value_of a i ≡ 1) → true_count h ≤ true_count a
unfolding true_count filter
nested_count [] a e up = zero-le
nested_count (x ∷ h) [] e up = absurd (omega arith)
nested_count (x ∷ h) (y ∷ a) e up = go (eqb 1 x) (eqb 1 y) refl refl (nested_count h a (omega arith) (λ i. up (suc i)))
  where
    go : (s t : Bool) → eqb 1 x ≡ s → eqb 1 y ≡ t → length (filter (eqb 1) h) ≤ length (filter (eqb 1) a)
        → length {A = ℕ} (elim s [ true ↦ x ∷ filter (eqb 1) h | false ↦ filter (eqb 1) h ]) ≤ length {A = ℕ} (elim t [ true ↦ y ∷ filter (eqb 1) a | false ↦ filter (eqb 1) a ])
    go true true p q r = suc-le-suc r
    go true false p q r = absurd (eqb-false 1 y q (sym (up 0 (sym (eqb-true 1 x p)))))
    go false true p q r = le_trans r (le-suc _)
    go false false p q r = r

pub nested_same : (h a : List ℕ) → length h ≡ length a → ((i : ℕ) → i < length h → value_of h i < 2) → ((i : ℕ) → i < length a → value_of a i < 2)
    → ((i : ℕ) → value_of h i ≡ 1 → value_of a i ≡ 1) → true_count a ≤ true_count h → h ≡ a
unfolding true_count filter
nested_same [] [] e b c up r = refl
nested_same [] (y ∷ a) e b c up r = absurd (omega arith)
nested_same (x ∷ h) [] e b c up r = absurd (omega arith)
nested_same (x ∷ h) (y ∷ a) e b c up r = go (eqb 1 x) (eqb 1 y) refl refl r (nested_count h a (omega arith) (λ i. up (suc i))) (nested_same h a (omega arith) (λ i l. b (suc i) (omega arith)) (λ i l. c (suc i) (omega arith)) (λ i. up (suc i)))
  where
    same_head : x ≡ y → h ≡ a → x ∷ h ≡ y ∷ a
    same_head p q = cc

    go : (s t : Bool) → eqb 1 x ≡ s → eqb 1 y ≡ t
        → length {A = ℕ} (elim t [ true ↦ y ∷ filter (eqb 1) a | false ↦ filter (eqb 1) a ]) ≤ length {A = ℕ} (elim s [ true ↦ x ∷ filter (eqb 1) h | false ↦ filter (eqb 1) h ])
        → length (filter (eqb 1) h) ≤ length (filter (eqb 1) a) → (length (filter (eqb 1) a) ≤ length (filter (eqb 1) h) → h ≡ a) → x ∷ h ≡ y ∷ a
    go true true p q r l ih = same_head (sym (eqb-true 1 x p) ∙ eqb-true 1 y q) (ih (omega arith))
    go true false p q r l ih = absurd (eqb-false 1 y q (sym (up 0 (sym (eqb-true 1 x p)))))
    go false true p q r l ih = absurd (omega arith)
    go false false p q r l ih = same_head (omega (arith, eqb-false 1 x p, eqb-false 1 y q, b 0 (omega arith), c 0 (omega arith))) (ih r)

-- an assignment that extends the values has no more true variables than are not false
pub few-true : (v a : List ℕ) → length v ≡ length a → v ⊑ a → true_count a ≤ not_false v
unfolding true_count not_false filter
few-true [] [] e p = zero-le
few-true [] (y ∷ a) e p = absurd (omega arith)
few-true (x ∷ v) [] e p = absurd (omega arith)
few-true (x ∷ v) (y ∷ a) e p = go (eqb x 0) (eqb 1 y) refl refl (few-true v a (omega arith) (record { keeps = λ i. p.keeps (suc i) }))
  where
    go : (s t : Bool) → eqb x 0 ≡ s → eqb 1 y ≡ t → length (filter (eqb 1) a) ≤ length (filter (λ z. not (eqb z 0)) v)
        → length {A = ℕ} (elim t [ true ↦ y ∷ filter (eqb 1) a | false ↦ filter (eqb 1) a ]) ≤ length {A = ℕ} (elim (not s) [ true ↦ x ∷ filter (λ z. not (eqb z 0)) v | false ↦ filter (λ z. not (eqb z 0)) v ])
    go true true q r l = absurd (omega (arith, eqb-true x 0 q, eqb-true 1 y r, p.keeps 0 (omega (arith, eqb-true x 0 q))))
    go true false q r l = l
    go false true q r l = suc-le-suc l
    go false false q r l = le_trans l (le-suc _)

-- ---- the latest satisfying trial among the values before the guesses that stand

unfoldable pub latest : List (List ℕ) → ℕ → List Guess → List ℕ
latest cs n [] = replicate n 0
latest cs n (g ∷ gs) = elim (satisfied cs (only_true g.values)) [ true ↦ only_true g.values | false ↦ latest cs n gs ]

-- the values before each guess are extended by those after it
abbrev pub Chain : ℕ → List Guess → List ℕ → Type 0
Chain n [] v = Unit {0}
Chain n (g ∷ gs) v = Values n g.values × (g.values ⊑ v) × (g.variable < n) × (value_of g.values g.variable ≡ 2) × Chain n gs g.values

-- a satisfying trial that has the values v and no further true variable
pub record Still (cs : List (List ℕ)) (n : ℕ) (v held : List ℕ) : Type 0 where
  pub extends : v ⊑ held
  pub model : Model cs n held
  pub true_in : (i : ℕ) → value_of held i ≡ 1 → value_of v i ≡ 1

-- of the values, the guesses that stand and the held trial
pub record Holds (cs : List (List ℕ)) (n : ℕ) (v : List ℕ) (gs : List Guess) (held : List ℕ) : Type 0 where
  pub chain : Chain n gs v
  pub is : (held ≡ latest cs n gs) ⊎ Still cs n v held

zeros : (n i : ℕ) → value_of (replicate n 0) i ≢ 1
zeros zero i e = absurd (omega arith)
zeros (suc n) zero e = absurd (omega arith)
zeros (suc n) (suc i) e = zeros n i e

pub zeros_assign : (n : ℕ) → Assignment n (replicate n 0)
zeros_assign n = record { long = length-replicate n 0; bit = bits n }
  where
    bits : (n i : ℕ) → i < n → value_of (replicate n 0) i < 2
    bits zero i h = absurd (omega arith)
    bits (suc n) zero h = omega arith
    bits (suc n) (suc i) h = bits n i (omega arith)

module _ (cs : List (List ℕ)) (n : ℕ) where
  latest_assigns : (gs : List Guess) (v : List ℕ) → Chain n gs v → Assignment n (latest cs n gs)
  unfolding latest
  latest_assigns [] v c = zeros_assign n
  latest_assigns (g ∷ gs) v c = go (satisfied cs (only_true g.values)) (latest_assigns gs g.values c.4)
    where
      go : (t : Bool) → Assignment n (latest cs n gs) → Assignment n (elim t [ true ↦ only_true g.values | false ↦ latest cs n gs ])
      go true ih = only-assigns c.0
      go false ih = ih

  latest_in : (gs : List Guess) (v : List ℕ) → Chain n gs v → (i : ℕ) → value_of (latest cs n gs) i ≡ 1 → value_of v i ≡ 1
  unfolding latest
  latest_in [] v c i e = absurd (zeros n i e)
  latest_in (g ∷ gs) v c i e = go (satisfied cs (only_true g.values)) e (latest_in gs g.values c.4 i)
    where
      up : value_of g.values i ≡ 1 → value_of v i ≡ 1
      up q = c.1.keeps i (omega arith) ∙ q

      go :
          (t : Bool) → value_of (elim t as (λ _. List ℕ) [ true ↦ only_true g.values | false ↦ latest cs n gs ]) i ≡ 1
          → (value_of (latest cs n gs) i ≡ 1 → value_of g.values i ≡ 1) → value_of v i ≡ 1
      go true q ih = up (one_only g.values i (omega (arith, length-only g.values, one_inside (only_true g.values) i (omega arith))) q)
      go false q ih = up (ih q)

  -- at the start
  pub holds-start : Holds cs n (replicate n 2) [] (replicate n 0)
  unfolding latest
  holds-start = record { chain = tt; is = inl refl }

chain_more : (n : ℕ) (gs : List Guess) (v w : List ℕ) → v ⊑ w → Chain n gs v → Chain n gs w
chain_more n [] v w p c = tt
chain_more n (g ∷ gs) v w p c = (c.0, ⊑_trans c.1 p, c.2, c.3, c.4)

module _ {cs : List (List ℕ)} {n : ℕ} where
  module _ {v : List ℕ} {gs : List Guess} {held : List ℕ} (h : Holds cs n v gs held) where
    -- the values are closed
    pub holds-closed : {w : List ℕ} → Closes cs v (rests w) → Holds cs n w gs held
    holds-closed {w} c = record { chain = chain_more n gs v w c.extends h.chain; is = go h.is }
      where
        go : (held ≡ latest cs n gs) ⊎ Still cs n v held → (held ≡ latest cs n gs) ⊎ Still cs n w held
        go (inl e) = inl e
        go (inr s) = inr (record { extends = c.least held s.extends (model_rests s.model); model = s.model; true_in = λ i e. let q = s.true_in i e in c.extends.keeps i (omega arith) ∙ q })

    -- a clause is broken: the latest guess is undone
    pub holds_undone : {g : Guess} {rest : List Guess} → gs ≡ g ∷ rest → Closes cs v breaks → Holds cs n (set g.values g.variable 0) rest held
    unfolding latest
    holds_undone {g} {rest} p b = record { chain = chain_more n rest g.values (set g.values g.variable 0) (set_more g.values g.variable 0 c.3) c.4; is = go h.is }
      where
        c : Chain n (g ∷ rest) v
        c = rw p at h.chain

        other :
            (t : Bool) → satisfied cs (only_true g.values) ≡ t → held ≡ elim t as (λ _. List ℕ) [ true ↦ only_true g.values | false ↦ latest cs n rest ]
            → (held ≡ latest cs n rest) ⊎ Still cs n (set g.values g.variable 0) held
        other false q e = inl e
        other true q e = inr (rw e (record {
          extends = set_below_lem g.values (only_true g.values) g.variable 0 (only-extends c.0) (only_zero g.values g.variable (omega (arith, c.0.long, c.2)) (omega (arith, c.3)));
          model = satisfied_model (only-assigns c.0) q;
          true_in = λ i q. let o = one_only g.values i (omega (arith, length-only g.values, one_inside (only_true g.values) i (omega arith))) q in (set_more g.values g.variable 0 c.3).keeps i (omega arith) ∙ o;
        }))

        go : (held ≡ latest cs n gs) ⊎ Still cs n v held → (held ≡ latest cs n rest) ⊎ Still cs n (set g.values g.variable 0) held
        go (inl e) = other (satisfied cs (only_true g.values)) refl (e ∙ ap (latest cs n) p)
        go (inr s) = absurd (b held s.extends (model_rests s.model))

    module _ (z : Values n v) where
      -- at rest: the held trial is then the latest, the one of these values among them
      pub holds_latest : (x : ℕ) → better cs (only_true v) held ≡ latest cs n (guess_of v x ∷ gs)
      unfolding better latest
      holds_latest x = go (satisfied cs (only_true v)) refl h.is
        where
          kept : {a : List ℕ} → held ≡ a → ◌≡◌ {A = List ℕ} (elim (ltb (true_count held) (true_count a)) [ true ↦ a | false ↦ held ]) a
          kept e = pick (ltb (true_count held) (true_count _)) e
            where
              pick : (t : Bool) {a : List ℕ} → held ≡ a → ◌≡◌ {A = List ℕ} (elim t [ true ↦ a | false ↦ held ]) a
              pick true e = refl
              pick false e = e

          most : held ≡ latest cs n gs → (t : Bool) → ltb (true_count held) (true_count (only_true v)) ≡ t → ◌≡◌ {A = List ℕ} (elim t [ true ↦ only_true v | false ↦ held ]) (only_true v)
          most e true q = refl
          most e false q =
              let s = subst (Assignment n) (sym e) (latest_assigns cs n gs v h.chain) in
              let o = only-assigns z in
              nested_same held (only_true v) (s.long ∙ sym o.long) (λ i l. s.bit i (omega (arith, s.long))) (λ i l. o.bit i (omega (arith, o.long)))
              (λ i l. only_one v i (latest_in cs n gs v h.chain i (ap (λ (y : List ℕ). value_of y i) (sym e) ∙ l))) (ltb-false _ _ q)

          go : (t : Bool) → satisfied cs (only_true v) ≡ t → (held ≡ latest cs n gs) ⊎ Still cs n v held
              → ◌≡◌ {A = List ℕ} (elim (t && ltb (true_count held) (true_count (only_true v))) [ true ↦ only_true v | false ↦ held ]) (elim t [ true ↦ only_true v | false ↦ latest cs n gs ])
          go false q (inl e) = e
          go true q (inl e) = most e (ltb (true_count held) (true_count (only_true v))) refl
          go t q (inr s) =
              let e : only_true v ≡ held = only_same z s.model.assigns (λ i l. s.extends.keeps i (omega arith) ∙ l) s.true_in in
              let y : t ≡ true = sym q ∙ ap (satisfied cs) e ∙ model_satisfied s.model in
              rw y (kept (sym e))

      -- and a guess is made
      pub holds_guess : (x : ℕ) → x < n → value_of v x ≡ 2 → Holds cs n (set v x 1) (guess_of v x ∷ gs) (better cs (only_true v) held)
      holds_guess x l o = record { chain = (z, set_more v x 1 o, l, o, h.chain); is = inl (holds_latest x) }

-- ---- the held trial satisfies the clauses

module _ (cs : List (List ℕ)) (n b : ℕ) (formed : Formed cs n) where
  better_model : (w held : List ℕ) → Values n w → Model cs n held → Model cs n (better cs (only_true w) held)
  unfolding better
  better_model w held z m = go (satisfied cs (only_true w)) refl (ltb (true_count held) (true_count (only_true w)))
    where
      go : (t : Bool) → satisfied cs (only_true w) ≡ t → (u : Bool) → Model cs n (elim (t && u) [ true ↦ only_true w | false ↦ held ])
      go true e true = satisfied_model (only-assigns z) e
      go true e false = m
      go false e u = m

  tries_model : (x : Next) (t : Trials) (e : Tried) → TriesTo cs n b x t e → Model cs n t.held → Model cs n e.trials.held
  tries_model x t e there m = m
  tries_model x t e (turn breaks z h r) m = tries_model _ _ e r m
  tries_model x t e (turn (rests w) z h r) m = tries_model _ (rested cs w t) e r (unfold rested in better_model w t.held (record { long = h.long ∙ z.long; small = h.small }) m)

  -- where no variable need be true
  pub held_model : Model cs n (replicate n 0) → Model cs n (search_tried cs n b).trials.held
  held_model m = tries_model (at_start n) (untried n) (search_tried cs n b) (tries_search cs n b formed) m

  -- ---- the ceiling

  -- no satisfying assignment has more true variables
  abbrev pub Bounds : Option ℕ → Type 0
  Bounds none = (a : List ℕ) → Model cs n a → ⊥
  Bounds (some u) = (a : List ℕ) → Model cs n a → true_count a ≤ u

  ceiling-kept : (x : Next) (t : Trials) (e : Tried) (u : ℕ) → TriesTo cs n b x t e → t.ceiling ≡ some u → e.trials.ceiling ≡ some u
  unfolding rested ceiling_by
  ceiling-kept x t e u there p = p
  ceiling-kept x t e u (turn breaks z h r) p = ceiling-kept _ _ e u r p
  ceiling-kept x t e u (turn (rests w) z h r) p = ceiling-kept _ (rested cs w t) e u r (rw p)

  ends-trials : (o : Outcome) (t : Trials) (e : Tried) → TriesTo cs n b (ends o) t e → e.trials ≡ t
  ends-trials o t e there = refl

  pub ceiling_bounds : Bounds (search_tried cs n b).trials.ceiling
  unfolding turn_to undo rested ceiling_by
  ceiling_bounds = go (search_tried cs n b) (tries_search cs n b formed)
    where
      go : (e : Tried) → TriesTo cs n b (at_start n) (untried n) e → Bounds e.trials.ceiling
      go e (turn breaks z h r) = rw (ends-trials _ (untried n) e r) (λ a m. h a (none_below n a) (model_rests m))
      go e (turn (rests w) z h r) = rw (ceiling-kept _ (rested cs w (untried n)) e (not_false w) r refl) (λ a m. few-true w a (h.long ∙ z.long ∙ sym m.assigns.long) (h.least a (none_below n a) (model_rests m)))

  pub ceiling-most : (a : List ℕ) → Model cs n a → true_count a ≤ ceiling_of (search_tried cs n b).trials.ceiling
  ceiling-most a m = go (search_tried cs n b).trials.ceiling ceiling_bounds
    where
      go : (u : Option ℕ) → Bounds u → true_count a ≤ ceiling_of u
      go none h = absurd (h a m)
      go (some u) h = h a m

-- ---- clauses that are at rest under the same values

-- nothing is unset, at rest: it satisfies the clauses
full_model : {cs : List (List ℕ)} {n : ℕ} {w : List ℕ} → Formed cs n → Values n w → AtRest cs w → ((j : ℕ) → j < length w → value_of w j ≢ 2) → Model cs n w
full_model {cs} {n} {w} formed z q f = record { assigns = record { long = z.long; bit = λ i l. omega (arith, z.small i, f i (omega (arith, z.long))) }; each = λ c m. each c m (q c m) }
  where
    each : (c : List ℕ) → Memᴰ c cs → Settled w c → (l : ℕ) × Memᴰ l c × Right w l
    each c m (holds l k r) = (l, k, r)
    each c m (waits l k ls e) =
        let o = filter-mem (is_unset w) c l (rw e (Memᴰ.head refl)) in
        absurd (f (l / 2) (omega (arith, formed.below c m l o.0, z.long)) (unset_is w l o.1))

module _ (cs ds : List (List ℕ)) (to : (u : List ℕ) → AtRest cs u → AtRest ds u) (n : ℕ) (formed : Formed ds n) where
  -- an assignment that satisfies these satisfies those
  satisfied_too : (a : List ℕ) → Assignment n a → satisfied cs a ≡ true → satisfied ds a ≡ true
  satisfied_too a s e = model_satisfied (full_model formed values (to a (model_rests (satisfied_model s e))) (λ j h. omega (arith, s.bit j (omega (arith, s.long)))))
    where
      small : (i : ℕ) → Dec (value_of a i ≡ 2) → value_of a i ≤ 2
      small i (yes e) = omega arith
      small i (no h) = omega (arith, s.bit i (omega (arith, one_inside a i h, s.long)))

      values : Values n a
      values = record { long = s.long; small = λ i. small i (ℕ_discrete (value_of a i) 2) }

module _ (cs ds : List (List ℕ)) (to : (u : List ℕ) → AtRest cs u → AtRest ds u) (from : (u : List ℕ) → AtRest ds u → AtRest cs u) (n : ℕ) (f : Formed cs n) (g : Formed ds n) where
  satisfied-alike : (a : List ℕ) → Assignment n a → satisfied cs a ≡ satisfied ds a
  satisfied-alike a s = go (satisfied cs a) (satisfied ds a) refl refl
    where
      go : (x y : Bool) → satisfied cs a ≡ x → satisfied ds a ≡ y → x ≡ y
      go true true p q = refl
      go true false p q = sym (satisfied_too cs ds to n g a s p) ∙ q
      go false true p q = sym p ∙ satisfied_too ds cs from n f a s q
      go false false p q = refl

  rested-alike : (w : List ℕ) (t : Trials) → Values n w → rested cs w t ≡ rested ds w t
  unfolding rested better
  rested-alike w t z =
      ap (λ (y : Bool). record { held = elim (y && ltb (true_count t.held) (true_count (only_true w))) as (λ _. List ℕ) [ true ↦ only_true w | false ↦ t.held ]; ceiling = ceiling_by w t.ceiling }) (satisfied-alike (only_true w) (only-assigns z))

  closed-alike : (v : List ℕ) (c : Closed) (t : Trials) → Values n v → Closes cs v c → closed_trials cs c t ≡ closed_trials ds c t
  closed-alike v breaks t z h = refl
  closed-alike v (rests w) t z h = rested-alike w t (record { long = h.long ∙ z.long; small = h.small })

  tries_alike : (b : ℕ) (x : Next) (t : Trials) (e : Tried) → TriesTo cs n b x t e → TriesTo ds n b x t e
  tries_alike b x t e there = there
  tries_alike b x t e (turn {v = v} {gs = gs} {k = k} c z h r) =
      turn c z (closes-alike cs ds to from v c h) (subst (λ (u : Trials). TriesTo ds n b (turn_to b gs k c) u e) (closed-alike v c t z h) (tries_alike b (turn_to b gs k c) (closed_trials cs c t) e r))

  -- the trials depend on these values alone
  pub tried-alike : (b : ℕ) → search_tried cs n b ≡ search_tried ds n b
  tried-alike b = turns_tried ds n b g (search_tried cs n b) (tries_alike b (at_start n) (untried n) (search_tried cs n b) (tries_search cs n b f))

-- not on the order or number of the clauses
pub tried-members :
    (cs ds : List (List ℕ)) → ((c : List ℕ) → Memᴰ c cs → Memᴰ c ds) → ((c : List ℕ) → Memᴰ c ds → Memᴰ c cs) → (n b : ℕ) → Formed cs n
    → Formed ds n → search_tried cs n b ≡ search_tried ds n b
tried-members cs ds to from n b f g = tried-alike cs ds (members-rest cs ds from) (members-rest ds cs to) n f g b

-- ---- a budget that is spent

abbrev AtBudget : ℕ → Outcome → Type 0
AtBudget b (solved v k) = Unit {0}
AtBudget b (none_exists k) = Unit {0}
AtBudget b (spent k) = k ≡ b
AtBudget b unfinished = Unit {0}

at-budget : (cs : List (List ℕ)) (b : ℕ) (s : State) (t : Next) → StepsTo cs b s t → Unit {0} → After (λ _. Unit {0}) (AtBudget b) t
at-budget cs b s t (fails f) h = tt
at-budget cs b s t (undoes f) h = tt
at-budget cs b s t (forces l f) h = tt
at-budget cs b s t (solves q f) h = tt
at-budget cs b s t (spends x q l o e) h = e
at-budget cs b s t (adds_guess x q l o e) h = tt

-- spent: as many guesses as the budget
pub spent-budget : (cs : List (List ℕ)) (n b k : ℕ) → search_from cs n b ≡ spent k → k ≡ b
unfolding search_from
spent-budget cs n b k e = rw e at (run-keeps (λ _. Unit {0}) (AtBudget b) cs b (at-budget cs b) tt (2 * suc b * suc (suc n)) (at_start n) tt)

-- ---- a solved search holds what it has found

clash : {A : Type 0} {j k : ℕ} {v : List ℕ} → (none_exists j ≡ solved v k) → A
clash e = let z : ◌≡◌ {A = ℕ} 0 1 = cc in absurd (omega arith)

clash_spent : {A : Type 0} {j k : ℕ} {v : List ℕ} → (spent j ≡ solved v k) → A
clash_spent e = let z : ◌≡◌ {A = ℕ} 0 1 = cc in absurd (omega arith)

module _ (cs : List (List ℕ)) (n b : ℕ) (formed : Formed cs n) where
  -- of an end: if it is solved, its values are held
  abbrev HeldSolved : Tried → Type 0
  HeldSolved e = (v : List ℕ) (k : ℕ) → e.outcome ≡ solved v k → e.trials.held ≡ v

  rest-held : (w : List ℕ) (gs : List Guess) (held : List ℕ) → Holds cs n w gs held → Values n w → AtRest cs w → ((j : ℕ) → j < length w → value_of w j ≢ 2) → better cs (only_true w) held ≡ w
  unfolding latest
  rest-held w gs held h z q f =
      let m = full_model formed z q f in
      let e : only_true w ≡ w = only_same z m.assigns (λ i p. p) (λ i p. p) in
      let y : satisfied cs (only_true w) ≡ true = ap (satisfied cs) e ∙ model_satisfied m in
      holds_latest h z 0 ∙ rw (y, latest) e

  tries_held : (x : Next) (t : Trials) (e : Tried) → TriesTo cs n b x t e → After (λ s. Holds cs n s.values s.guesses t.held) (λ o. HeldSolved (end_of o t)) x → HeldSolved e
  unfolding turn_to decide
  tries_held x t e there h = h
  tries_held x t e (turn {v = v} {gs = gs} {k = k} breaks z c r) h = tries_held _ t e r (undone gs h)
    where
      undone : (gs : List Guess) → Holds cs n v gs t.held → After (λ s. Holds cs n s.values s.guesses t.held) (λ o. HeldSolved (end_of o t)) (turn_to b gs k breaks)
      undone [] h = unfold turn_to in unfold undo in λ v k e. clash e
      undone (g ∷ gs) h = unfold turn_to in unfold undo in holds_undone h refl c
  tries_held x t e (turn {v = v} {gs = gs} {k = k} (rests w) z c r) h = tries_held _ (rested cs w t) e r (decided (lowest_unset w 0) (lowest_is w 0))
    where
      zw : Values n w
      zw = record { long = c.long ∙ z.long; small = c.small }

      decided : (o : Option ℕ) → LowestUnset w 0 o → After (λ s. Holds cs n s.values s.guesses (rested cs w t).held) (λ o. HeldSolved (end_of o (rested cs w t))) (decide b (state_of w gs k) o)
      decided none l = unfold decide in unfold rested in λ v j e. let q : w ≡ v = cc in rest-held w gs t.held (holds-closed h c) zw c.at_rest l ∙ q
      decided (some x) l = unfold decide in go (eqb k b)
        where
          below : x < n
          below = omega (arith, c.long, z.long)

          is_unset_lem : value_of w x ≡ 2
          is_unset_lem = let e : x ≡ l.0 = omega arith in ap (value_of w) e ∙ l.3

          go :
              (y : Bool)
              → After (λ s. Holds cs n s.values s.guesses (rested cs w t).held) (λ o. HeldSolved (end_of o (rested cs w t))) (elim y [ true ↦ ends (spent k) | false ↦ goes (state_of (set w x 1) (guess_of w x ∷ gs) (k + 1)) ])
          go true = λ v j e. clash_spent e
          go false = unfold rested in holds_guess (holds-closed h c) zw x below is_unset_lem

  -- the trial held at the end of a solved search is what it has found
  pub solved-held : (v : List ℕ) (k : ℕ) → search_from cs n b ≡ solved v k → (search_tried cs n b).trials.held ≡ v
  solved-held v k e = tries_held (at_start n) (untried n) (search_tried cs n b) (tries_search cs n b formed) (holds-start cs n) v k (tried-outcome cs n b ∙ e)

-- ---- three states without records, one guess: the trial of the rest at which the budget is found spent is held
three_states : search_tried ((1 ∷ 5 ∷ 2 ∷ []) ∷ (1 ∷ 3 ∷ 4 ∷ []) ∷ (3 ∷ 5 ∷ 0 ∷ []) ∷ []) 3 1 ≡ record { outcome = spent 1; trials = record { held = 1 ∷ 0 ∷ 0 ∷ []; ceiling = some 3 } }
unfolding search_tried run_tried step act decide undo scan seen both by_unset is_right is_unset filter lowest_unset tried rested better ceiling_by satisfied only_true true_count not_false
three_states = refl
