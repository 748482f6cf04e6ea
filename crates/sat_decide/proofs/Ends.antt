-- Laws for the turns of the search: the guesses that stand are read off the values, the trail and the marks; a turn undoes a guess, ends or
-- makes one. Assumes nothing.
use mathlib.Core.Path.{◌≡◌, refl, sym, ap, ◌∙◌, subst}
use mathlib.Core.Logic.{◌≢◌, ◌⊎◌, inl, inr}
use mathlib.Core.Bool.{Bool, true, false, ◌&&◌}
use mathlib.Core.List.Memᴰ
use mathlib.Core.List.Memᴰ.{append_cases}
use mathlib.Core.List.Memᴰ.{eq_of_singleton}
use mathlib.Core.List.Memᴰ.{not-nil}
use mathlib.Core.List.{List, [], ◌∷◌, ◌++◌, Memᴰ}
use mathlib.Core.Option.{some, none as none_yet}
use Prim.Native.Nat.{ℕ, suc, ◌+◌, ◌-◌, ◌/◌, ◌%◌, ◌*◌, ◌≤◌, ◌<◌, zero-le}
use native.Mathlib.Numerals.{add-one}
use native.Mathlib.Omega.{arith}
use native.Mathlib.Decide.{ℕ_discrete, dec_lt}
use lib.ListN.{length, get_or, set, take, drop, replicate, length-set, length-append, get_or-append, take-append-drop}
use lib.Seq.{slice, slice_empty, slice-cons, get_or-set_same, get_or-set_other, take-append-le, drop-append-le, take-append_seam, drop-append_seam, get_or-append_seam, take-suc, take-suc-set, drop-cons, get_or-take, take-take, length-take-le}
use borrow.Author.Tests.{eq-eqb, ne_eqb}
use Rattle.lists.specs.Lists.{any}
use Rattle.lists.proofs.Members.{get_d_mem}
use Rattle.cnf.specs.Clauses.{value_of, clauses_in, words_of, whole}
use Rattle.cnf.specs.Search.{is_right, goes, Outcome, solved, none_exists, spent, Guess, undo, decide, lowest_unset, search_from}
use Rattle.cnf.specs.Trials.{only_true, satisfied, not_false, Trials, better, ceiling_by, rested, Tried, untried, search_tried}
use Rattle.cnf.specs.Closing.{Formed, Values, ◌⊑◌, unset_count, AtRest, Closed, breaks, rests, Closes}
use Rattle.cnf.proofs.Values.{⊑_refl, set_values, start-values, unset_set, unset-start, none-set}
use Rattle.cnf.proofs.Found.{lowest-some, lowest-none}
use Rattle.cnf.proofs.Steps.{state_of, guess_of}
use Rattle.cnf.proofs.Words.{clauses_words, whole_words}
use Rattle.cnf.proofs.Order.{units-below}
use Rattle.cnf.proofs.Queue.{waiting-set, rest-waiting}
use Rattle.cnf.proofs.Closure.{closes-one, closes-alike, closes-below, units_break, turn_to, at_start}
use Rattle.cnf.proofs.Trying.{closed_trials, end_of, TriesTo, there, turn, tried-outcome, turns_tried}
use Rattle.cnf.proofs.Trials.{latest as latestTrial, Holds, holds-start, holds-closed, holds_undone, holds_guess, holds_latest, horn_trial, solved-held, tried-alike}
use Rattle.pairs.specs.Triangles.{triangles}
use Rattle.sat_scan.specs.Scan.{Sifts}
use Rattle.sat_simplify.specs.Simplify.{AllSet, lightened, clauses_at, variables_set, Lightens, LightensAll}
use Rattle.sat_trail.specs.Trail.{unsetting, Ready, Grown, Worked, Queue, closed_by, Settles}
use Rattle.sat_trail.specs.Rows.{Rows, Own, Settable, Forced}
use Rattle.sat_trail.specs.Conclusions.{with_triangles}
use Rattle.sat_trial.specs.Trial.{held_if, back_along, Retraceable}
use Rattle.sat_decide.specs.Turns.{NextUnset, LowestUnset, Fresh, Begun, Rested, EndsWith, outcome_of}
use Rattle.sat_trail.specs.Undo.{Undoable, Undone}
use Rattle.sat_decide.specs.declared.Ending.{Ending}
use Rattle.sat_decide.specs.declared.Ending.TheVariants.{Found, Absent, Spent}
use Rattle.sat_trail.proofs.Trails.{unsetting-append, length-unsetting, unsetting_store, grown-length, grown_store}
use Rattle.sat_trail.proofs.Working.{worked-length, worked_on, worked-part, ready-part}
use Rattle.sat_passes.proofs.Attending.{to_cs}
use Rattle.sat_passes.proofs.Passes.{worked-queue}
use Rattle.sat_simplify.proofs.Simplifying.{covered, Spares, spares_all, spares_left, set_in, set-all_in, lighter_to, lighter_from, lighter_formed}
use Rattle.sat_trail.proofs.Marking.{rows_start}
use Rattle.equality_spread.proofs.Triangles.{with_formed, triangles_horn, unset-rest}

-- ---- the guesses that stand

-- gs are the guesses that stand, latest first: d of them, and the first d of ms are their places on the trail p. Of each: the values before it,
-- in which as many variables are set as stand before it on the trail, every variable below the guessed one is set, and every clause is settled
pub data Stands (cs : List (List ℕ)) (n : ℕ) (ms : List ℕ) : List ℕ → List ℕ → ℕ → List Guess → Type 0 where
  none : {v p : List ℕ} → Stands cs n ms v p 0 []
  one :
      {v p u : List ℕ} {d m x : ℕ} {gs : List Guess} → m ≡ get_or ms d 0 → m < length p → x ≡ get_or p m 0 → unsetting v (drop m p) ≡ u → Values n u
      → m + unset_count u ≡ n → ((j : ℕ) → j < x → value_of u j ≢ 2) → AtRest cs u
      → Stands cs n ms u (take m p) d gs → Stands cs n ms v p (suc d) (guess_of u x ∷ gs)

module _ {cs : List (List ℕ)} {n : ℕ} {ms : List ℕ} where
  -- no more guesses than variables set
  depth_le : {v p : List ℕ} {d : ℕ} {gs : List Guess} → Stands cs n ms v p d gs → d ≤ length p
  depth_le none = zero-le
  depth_le (one {p = p} {m = m} em lm ex eu z c l q s) = omega (arith, depth_le s, length-take-le m p (omega arith))

  -- further variables are set
  stands-more : {v p : List ℕ} (w new : List ℕ) {d : ℕ} {gs : List Guess} → unsetting w new ≡ v → Stands cs n ms v p d gs → Stands cs n ms w (p ++ new) d gs
  stands-more w new e none = none
  stands-more {v} {p} w new e (one {u = u} {d = d} {m = m} {gs = gs} em lm ex eu z c l q s) =
      one {p = p ++ new} em (omega (arith, length-append p new)) (ex ∙ sym (get_or-append p new 0 m lm)) (back ∙ eu) z c l q (subst (λ (r : List ℕ). Stands cs n ms u r d gs) (sym (take-append-le m p new (omega arith))) s)
    where
      back : unsetting w (drop m (p ++ new)) ≡ unsetting v (drop m p)
      back = ap (unsetting w) (drop-append-le m p new (omega arith)) ∙ unsetting-append w (drop m p) new ∙ ap (λ (u : List ℕ). unsetting u (drop m p)) e

  -- the marks of later guesses do not matter
  stands-marks : {ls v p : List ℕ} {d : ℕ} {gs : List Guess} → ((i : ℕ) → i < d → get_or ls i 0 ≡ get_or ms i 0) → Stands cs n ms v p d gs → Stands cs n ls v p d gs
  stands-marks h none = none
  stands-marks h (one {d = d} em lm ex eu z c l q s) = one (em ∙ sym (h d (omega arith))) lm ex eu z c l q (stands-marks (λ i k. h i (omega arith)) s)

  -- a guess is made
  stands_guess : {v p : List ℕ} {d x : ℕ} {gs : List Guess} → d < length ms → Values n v → length p + unset_count v ≡ n → value_of v x ≡ 2 → ((j : ℕ) → j < x → value_of v j ≢ 2) → AtRest cs v
      → Stands cs n ms v p d gs → Stands cs n (set ms d (length p)) (set v x 1) (p ++ (x ∷ [])) (suc d) (guess_of v x ∷ gs)
  stands_guess {v} {p} {d} {x} {gs} h z c e l q s =
      one
      {p = p ++ (x ∷ [])}
      (sym (get_or-set_same ms d (length p) 0 h))
      (omega (arith, length-append p (x ∷ [])))
      (sym (get_or-append_seam p x [] 0))
      (ap (unsetting (set v x 1)) (drop-append_seam p (x ∷ [])) ∙ unsetting_store v x 1 e)
      z
      c
      l
      q
      (stands-marks (λ i k. get_or-set_other ms d i (length p) 0 (omega arith)) (subst (λ (r : List ℕ). Stands cs n ms v r d gs) (sym (take-append_seam p (x ∷ []))) s))

-- the places of the guesses ascend on the trail
stands-places : {cs : List (List ℕ)} {n : ℕ} {ms v p : List ℕ} {d : ℕ} {gs : List Guess} → Stands cs n ms v p d gs → (e : ℕ) → e < d → get_or ms e 0 < length p
stands-places none e h = absurd (omega arith)
stands-places {ms = ms} {p = p} (one {d = d} {m = m} em lm ex eu z c l q s) e h = go (ℕ_discrete e d) (λ k. stands-places s e k)
  where
    go : Dec (e ≡ d) → (e < d → get_or ms e 0 < length (take m p)) → get_or ms e 0 < length p
    go (yes k) ih = let same : get_or ms e 0 ≡ m = ap (λ (i : ℕ). get_or ms i 0) k ∙ sym em in omega arith
    go (no k) ih = omega (arith, ih (omega arith), length-take-le m p (omega arith))

stands-ascend : {cs : List (List ℕ)} {n : ℕ} {ms v p : List ℕ} {d : ℕ} {gs : List Guess} → Stands cs n ms v p d gs → (e f : ℕ) → e < f → f < d → get_or ms e 0 < get_or ms f 0
stands-ascend none e f h k = absurd (omega arith)
stands-ascend {ms = ms} {p = p} (one {d = d} {m = m} em lm ex eu z c l q s) e f h k = go (ℕ_discrete f d) (λ k. stands-ascend s e f h k)
  where
    go : Dec (f ≡ d) → (f < d → get_or ms e 0 < get_or ms f 0) → get_or ms e 0 < get_or ms f 0
    go (yes i) ih = let same : get_or ms f 0 ≡ m = ap (λ (i : ℕ). get_or ms i 0) i ∙ sym em in omega (arith, stands-places s e (omega arith), length-take-le m p (omega arith))
    go (no i) ih = ih (omega arith)

-- the walk back finds the latest trial that satisfies the clauses; ds are those of them that have to be tried at rest
module _ {cs : List (List ℕ)} (ds : List (List ℕ)) {n : ℕ} {ms : List ℕ} (same : (u : List ℕ) → Values n u → AtRest cs u → satisfied cs (only_true u) ≡ satisfied ds (only_true u)) where
  stands-back : {v p : List ℕ} {d : ℕ} {gs : List Guess} (x : ℕ) → Values n v → AtRest cs v → Stands cs n ms v p d gs → latestTrial cs n (guess_of v x ∷ gs) ≡ back_along ds ms v p d
  unfolding latestTrial back_along
  stands-back {v} x y r none = ap (λ (t : Bool). elim t as (λ _. List ℕ) [ true ↦ only_true v | false ↦ replicate n 0 ]) (same v y r) ∙ go (satisfied ds (only_true v))
    where
      go : (t : Bool) → elim t as (λ _. List ℕ) [ true ↦ only_true v | false ↦ replicate n 0 ] ≡ held_if t v
      go true = refl
      go false = ap (λ (k : ℕ). replicate {A = ℕ} k 0) (sym y.long)
  stands-back {v} {p} {gs = gs} x y r (one {u = u} {d = d} {m = m} {x = g} em lm ex eu z c l q s) =
      ap (λ (t : Bool). elim t as (λ _. List ℕ) [ true ↦ only_true v | false ↦ latestTrial cs n gs ]) (same v y r)
      ∙ ap (λ (w : List ℕ). elim (satisfied ds (only_true v)) as (λ _. List ℕ) [ true ↦ only_true v | false ↦ w ]) (stands-back g z q s ∙ (λ i. back_along ds ms (sym eu i) (take m p) d) ∙ ap (λ (k : ℕ). back_along ds ms (unsetting v (drop k p)) (take k p) d) em)

-- the latest guess
record Latest (cs : List (List ℕ)) (n : ℕ) (ms v p : List ℕ) (d : ℕ) (gs : List Guess) : Type 0 where
  pub place : get_or ms d 0 < length p
  pub values : List ℕ
  pub rest : List Guess
  pub guesses : gs ≡ guess_of values (get_or p (get_or ms d 0) 0) ∷ rest
  pub back : unsetting v (drop (get_or ms d 0) p) ≡ values
  pub formed : Values n values
  pub counted : get_or ms d 0 + unset_count values ≡ n
  pub lower : (j : ℕ) → j < get_or p (get_or ms d 0) 0 → value_of values j ≢ 2
  pub at_rest : AtRest cs values
  pub stands : Stands cs n ms values (take (get_or ms d 0) p) d rest

latest : {cs : List (List ℕ)} {n : ℕ} {ms v p : List ℕ} {d : ℕ} {gs : List Guess} → Stands cs n ms v p (suc d) gs → Latest cs n ms v p d gs
latest {ms = ms} {v = v} {p = p} {d = d} (one {u = u} {m = m} {x = x} {gs = gs} em lm ex eu z c l q s) = record {
  place = rw (← em) lm;
  values = u;
  rest = gs;
  guesses = ap (λ (y : ℕ). guess_of u y ∷ gs) (ex ∙ ap (λ (k : ℕ). get_or p k 0) em);
  back = rw (← em) eu;
  formed = z;
  counted = rw (← em) c;
  lower = λ j h. l j (rw (ex ∙ ap (λ (k : ℕ). get_or p k 0) em) h);
  at_rest = q;
  stands = rw (← em) s;
}

no_guess : {cs : List (List ℕ)} {n : ℕ} {ms v p : List ℕ} {d : ℕ} {gs : List Guess} → Stands cs n ms v p d gs → d ≡ 0 → gs ≡ []
no_guess none e = refl
no_guess (one em lm ex eu z c l q s) e = absurd (omega arith)

-- ---- members of a trail

mem-take : (k : ℕ) (l : List ℕ) (x : ℕ) → Memᴰ x (take k l) → Memᴰ x l
mem-take k l x m = subst (λ (r : List ℕ). Memᴰ x r) (take-append-drop k l) (Memᴰ.append_left (drop k l) m)

-- the first variable that is unset again
unset-first : (v p : List ℕ) (m : ℕ) → m < length p → get_or p m 0 < length v → value_of (unsetting v (drop m p)) (get_or p m 0) ≡ 2
unfolding unsetting
unset-first v p m h k = rw (drop-cons p m 0 h) (get_or-set_same (unsetting v (drop (suc m) p)) (get_or p m 0) 2 2 (rw length-unsetting k))

-- a variable is set, and all below it are
set-lower : (v : List ℕ) (x k : ℕ) → x < length v → k ≢ 2 → ((j : ℕ) → j < x → value_of v j ≢ 2) → (j : ℕ) → j < x + 1 → value_of (set v x k) j ≢ 2
set-lower v x k h n l j b = go (ℕ_discrete j x)
  where
    go : Dec (j ≡ x) → value_of (set v x k) j ≢ 2
    go (yes e) = λ z. n (sym (get_or-set_same v x k 2 h) ∙ ap (value_of (set v x k)) (sym e) ∙ z)
    go (no e) = λ z. l j (omega arith) (sym (get_or-set_other v x j k 2 e) ∙ z)

-- ---- a turn

-- the trial that is held, once there is a ceiling
abbrev trials_of : List ℕ → ℕ → Trials
trials_of held u = record { held = held; ceiling = some u }

undo_leads :
    {cs : List (List ℕ)} {n b k x : ℕ} {v u : List ℕ} {gs : List Guess} {t : Trials} {e : Tried} → Values n v → Closes cs v breaks
    → TriesTo cs n b (goes (state_of (set u x 0) gs k)) t e → TriesTo cs n b (goes (state_of v (guess_of u x ∷ gs) k)) t e
unfolding turn_to undo
undo_leads z h l = turn breaks z h l

-- at the head of a turn: n variables, b the budget, u the ceiling
pub record Turning (cs : List (List ℕ)) (n b u : ℕ) (v t ms : List ℕ) (from count depth made low : ℕ) : Type 0 where
  pub ready : Ready cs v t count
  pub queue : Queue cs v t from count
  pub size : length v ≡ n
  pub most : n ≤ 780
  pub long : length t ≡ 780
  pub marks : length ms ≡ 780
  pub below : (x : ℕ) → Memᴰ x (take count t) → x < n
  pub guesses : List Guess
  pub stands : Stands cs n ms v (take count t) depth guesses
  pub low_in : low ≤ n
  pub lower : (j : ℕ) → j < low → value_of v j ≢ 2
  pub few : made ≤ b
  pub held : List ℕ
  pub holds : Holds cs n v guesses held
  pub leads : (e : Tried) → TriesTo cs n b (goes (state_of v guesses made)) (trials_of held u) e → TriesTo cs n b (at_start n) (untried n) e

-- the queue has one variable, which was set in values at rest
queue-one : {cs : List (List ℕ)} {v t : List ℕ} {at x k : ℕ} → AtRest cs v → x < length v → k ≢ 2 → at < length t → x ≡ get_or t at 0 → Queue cs (set v x k) t at (at + 1)
queue-one {cs} {v} {t} {at} {x} {k} r h n l e = record {
  inside = omega arith;
  queued = λ y m. is_set y (eq_of_singleton (rw one-variable at m));
  waiting = rw one-variable (waiting-set x k (rest-waiting [] r));
}
  where
    one-variable : slice at (at + 1) t ≡ x ∷ []
    one-variable = slice-cons at (at + 1) t 0 (omega arith) (omega arith) ∙ rw (← add-one at, slice_empty, e)

    is_set : (y : ℕ) → y ≡ x → (y < length (set v x k)) × (value_of (set v x k) y ≢ 2)
    is_set y q = (rw (q, length-set) h, λ z. n (sym (get_or-set_same v x k 2 h) ∙ ap (value_of (set v x k)) (sym q) ∙ z))

-- ---- how the search ends

module _ {cs : List (List ℕ)} {n b : ℕ} (formed : Formed cs n) where
  ended : {o : Outcome} (t : Trials) → TriesTo cs n b (at_start n) (untried n) (end_of o t) → search_tried cs n b ≡ end_of o t
  ended {o} t l = sym (turns_tried cs n b formed (end_of o t) l)

  absent_ends : {k : ℕ} (t : Trials) → TriesTo cs n b (at_start n) (untried n) (end_of (none_exists k) t) → (search_tried cs n b).outcome ≡ none_exists k
  absent_ends t l = ap (λ (e : Tried). e.outcome) (ended t l)

  -- what was found is held
  found-ends : {w : List ℕ} {k u : ℕ} (held : List ℕ) → TriesTo cs n b (at_start n) (untried n) (end_of (solved w k) (trials_of held u)) → EndsWith (search_tried cs n b) (Found k) w u
  found-ends {w} {k} {u} held l =
      let e = ended (trials_of held u) l in
      let same : held ≡ w = sym (ap (λ (e : Tried). e.trials.held) e) ∙ solved-held cs n b formed w k (sym (tried-outcome cs n b) ∙ ap (λ (e : Tried). e.outcome) e) in
      e ∙ (λ i. end_of (solved w k) (trials_of (same i) u))

pub ends-outcome : (cs : List (List ℕ)) (n b : ℕ) (r : Ending) (w : List ℕ) (u : ℕ) → EndsWith (search_tried cs n b) r w u → outcome_of r w ≡ search_from cs n b
ends-outcome cs n b (Found k) w u e = sym (ap (λ (e : Tried). e.outcome) e) ∙ tried-outcome cs n b
ends-outcome cs n b (Absent k) w u e = sym e ∙ tried-outcome cs n b
ends-outcome cs n b (Spent k) w u e = sym (ap (λ (e : Tried). e.outcome) e) ∙ tried-outcome cs n b

-- ---- the first closing

-- values that were closed close to themselves; the ceiling is that of the first rest
rested_leads :
    {cs : List (List ℕ)} {n b k : ℕ} {v w held : List ℕ} {gs : List Guess} {e : Tried} → Values n v → Closes cs v (rests w)
    → TriesTo cs n b (goes (state_of w gs k)) (trials_of held (not_false w)) e
    → TriesTo cs n b (goes (state_of v gs k)) (record { held = held; ceiling = none_yet }) e
unfolding rested ceiling_by
rested_leads {cs} {n} {b} {k} {v} {w} {held} {gs} {e} z h (turn c y i l) =
    turn (rests w) z h (subst (λ (x : Closed). TriesTo cs n b (turn_to b gs k x) (closed_trials cs x (trials_of held (not_false w))) e) (closes-one cs w c (rests w) i itself) l)
  where
    itself : Closes cs w (rests w)
    itself = record { long = refl; small = h.small; extends = ⊑_refl w; at_rest = h.at_rest; least = λ u p q. p }

-- ---- what is left of a list

-- the clauses of the list are over the variables
pub list-formed : (ws : List ℕ) (m : ℕ) {n : ℕ} → Formed (with_triangles ws m) n → Formed (clauses_in ws) n
list-formed ws m f = record { below = λ c k. f.below c (Memᴰ.append_left (triangles m) k) }

-- v are the values that are set wherever the list is at rest, xs the variables that have one, and cs has the clauses that do not hold
record Lighter (ws v xs : List ℕ) (cs : List (List ℕ)) (m : ℕ) : Type 0 where
  pub formed : Formed (with_triangles ws m) (length v)
  pub low : (u : List ℕ) → AtRest (with_triangles ws m) u → v ⊑ u
  pub all_set : AllSet v xs
  pub cover : (x : ℕ) → value_of v x ≢ 2 → Memᴰ x xs
  pub left : Spares ws v cs

module _ {ws v xs rest : List ℕ} {cs : List (List ℕ)} {m : ℕ} (g : Lighter ws v xs cs m) (written : rest ≡ words_of (lightened v xs cs)) where
  same-rests : with_triangles rest m ≡ lightened v xs cs ++ triangles m
  same-rests = ap (λ (y : List (List ℕ)). y ++ triangles m) (ap clauses_in written ∙ clauses_words (lightened v xs cs))

  lighter_whole : whole rest ≡ true
  lighter_whole = ap whole written ∙ whole_words (lightened v xs cs)

  sets : (x : ℕ) → Memᴰ x xs → value_of v x < 2
  sets x h = (g.all_set x h).1

  rest-formed : Formed (with_triangles rest m) (length v)
  rest-formed = rw same-rests (lighter_formed (triangles m) sets g.cover g.left (length v) refl g.all_set g.formed)

  to-rest : (u : List ℕ) → AtRest (with_triangles ws m) u → AtRest (with_triangles rest m) u
  to-rest u q = rw same-rests (lighter_to (triangles m) sets g.cover g.left u (g.low u q) q)

  from-rest : (u : List ℕ) → AtRest (with_triangles rest m) u → AtRest (with_triangles ws m) u
  from-rest u q = lighter_from (triangles m) sets g.cover g.left u (rw same-rests at q)

  -- it has the outcome and the trials of the whole list
  lighter_ends : (b : ℕ) (r : Ending) (x : List ℕ) (u : ℕ) → EndsWith (search_tried (with_triangles rest m) (length v) b) r x u → EndsWith (search_tried (with_triangles ws m) (length v) b) r x u
  lighter_ends b r x u q = subst (λ (z : Tried). EndsWith z r x u) (tried-alike (with_triangles rest m) (with_triangles ws m) from-rest to-rest (length v) rest-formed g.formed b) q

-- at the first rest
module _ (ws : List ℕ) {v t : List ℕ} (m : ℕ) {n start : ℕ} (r : Rested (with_triangles ws m) n v t start) where
  pub rest_lightens : whole ws ≡ true → LightensAll ws v
  rest_lightens w = record { all_there = w; formed = rw r.size (list-formed ws m r.formed); most = omega (arith, r.size, r.most); small = r.closed.small }

  rest_lighter : Lighter ws v (variables_set v) (clauses_in ws) m
  rest_lighter = record {
    formed = rw r.size r.formed;
    low = λ u q. r.closed.least u (record { keeps = λ i h. absurd (h (none-set n i)) }) q;
    all_set = set_in v r.closed.small;
    cover = set-all_in v;
    left = spares_all ws v;
  }

  module _ {rest : List ℕ} (written : rest ≡ words_of (lightened v (variables_set v) (clauses_in ws))) where
    pub rest-whole : whole rest ≡ true
    rest-whole = lighter_whole rest_lighter written

    pub rest-rested : Rested (with_triangles rest m) n v t start
    rest-rested = record {
      formed = rw r.size at (rest-formed rest_lighter written);
      size = r.size;
      most = r.most;
      long = r.long;
      counted = r.counted;
      below = r.below;
      closed = closes-alike (with_triangles ws m) (with_triangles rest m) (to-rest rest_lighter written) (from-rest rest_lighter written) (replicate n 2) (rests v) r.closed;
    }

    pub rest-ends : (b : ℕ) (e : Ending) (x : List ℕ) (u : ℕ) → EndsWith (search_tried (with_triangles rest m) n b) e x u → EndsWith (search_tried (with_triangles ws m) n b) e x u
    rest-ends b e x u q =
        subst (λ (k : ℕ). EndsWith (search_tried (with_triangles ws m) k b) e x u) r.size
        (lighter_ends rest_lighter written b e x u (subst (λ (k : ℕ). EndsWith (search_tried (with_triangles rest m) k b) e x u) (sym r.size) q))

-- nothing is unset where as many are set as there are
all_set : (w : List ℕ) {count : ℕ} → count + unset_count w ≡ length w → count ≡ length w → (j : ℕ) → j < length w → value_of w j ≢ 2
all_set w c e j h = λ z. absurd (omega (arith, unset_set w j 0 h z (omega arith)))

module _ {ws v : List ℕ} {m : ℕ} (f : Fresh ws m v) (b : ℕ) where
  all-formed : Formed (with_triangles ws m) (length v)
  all-formed = with_formed ws f.size f.formed

  all-unset : (i : ℕ) → value_of v i ≡ 2
  all-unset i = ap (λ (u : List ℕ). value_of u i) f.none-set ∙ none-set (length v) i

  pub first_rows : {joined : List ℕ} → Own joined → Rows m v joined (replicate 40 0)
  first_rows o = rows_start f.few f.size all-unset o

  -- nothing is set, so nothing is to be concluded
  nothing_due : AtRest (triangles m) v
  nothing_due = unset-rest m v all-unset

  pub first-ready : {t : List ℕ} → length t ≡ 780 → Ready (with_triangles ws m) v t 0
  first-ready p = record {
    formed = all-formed;
    values = subst (Values (length v)) (sym f.none-set) (start-values (length v));
    counted = omega (arith, ap unset_count f.none-set, unset-start (length v));
    room = omega (arith, f.most);
  }

  pub list-ready : {t : List ℕ} → length t ≡ 780 → Ready (clauses_in ws) v t 0
  list-ready p = ready-part (clauses_in ws) (with_triangles ws m) (to_cs (clauses_in ws) (triangles m)) (first-ready p)

  -- the search begins
  pub begins : {t : List ℕ} → length t ≡ 780 → Begun ws m v t 0
  begins {t} p = record {
    all_there = f.all_there;
    ready = first-ready p;
    queue = record { inside = omega arith; queued = λ x k. absurd (not-nil (rw slice_empty at k)); waiting = rest-waiting (slice 0 0 t) nothing_due };
    most = f.most;
    long = p;
    below = λ x k. absurd (not-nil k);
    low = λ u q. record { keeps = λ i h. absurd (h (all-unset i)) };
  }

  -- or a first pass was made
  module _ {t w s room : List ℕ} {count kept : ℕ} {isBroken : Bool} (p : length t ≡ 780) (c : Sifts ws v t 0 w s room isBroken count kept) where
    sifted : Worked (with_triangles ws m) v t 0 w s isBroken count
    sifted = worked-part (clauses_in ws) (with_triangles ws m) (to_cs (clauses_in ws) (triangles m)) c.pass.worked

    pub sifted_size : length w ≡ length v
    sifted_size = worked-length (first-ready p) sifted

    pub sifted_long : length s ≡ 780
    sifted_long = sifted.grown.long ∙ p

    pub sifted_absent : isBroken ≡ true → (u : ℕ) → EndsWith (search_tried (with_triangles ws m) (length v) b) (Absent 0) w u
    unfolding turn_to undo
    sifted_absent e u =
        absent_ends all-formed (untried (length v))
        (turn breaks (start-values (length v)) (subst (λ (y : List ℕ). Closes (with_triangles ws m) y breaks) f.none-set (units_break (with_triangles ws m) v w sifted.units (sifted.breaking e))) there)

    -- as many as the trail has are set, and no other
    trail_is : take count s ≡ sifted.grown.new
    trail_is = sifted.grown.grows

    pub sifted_count : count ≤ length w
    sifted_count = omega (arith, sifted.grown.counted)

    pub sifted_below : (x : ℕ) → Memᴰ x (take count s) → x < length w
    sifted_below x k = rw sifted_size (sifted.grown.below x (subst (λ (l : List ℕ). Memᴰ x l) trail_is k))

    pub sifted_set : AllSet w (take count s)
    sifted_set x k =
        let now = sifted.fresh x (subst (λ (l : List ℕ). Memᴰ x l) trail_is k) in
        (sifted_below x k, omega (arith, now, (worked_on (first-ready p) sifted).values.small x))

    sifted_cover : (x : ℕ) → value_of w x ≢ 2 → Memᴰ x (take count s)
    sifted_cover x h = rw trail_is (covered w sifted.grown.new x (ap (λ (y : List ℕ). value_of y x) sifted.grown.back ∙ all-unset x) h)

    sifted_low : (u : List ℕ) → AtRest (with_triangles ws m) u → w ⊑ u
    sifted_low u q = units-below (with_triangles ws m) v w u sifted.units (record { keeps = λ i h. absurd (h (all-unset i)) }) q

    sifted_queue : Queue (triangles m) w s 0 count
    sifted_queue = worked-queue (first-ready p) sifted nothing_due

    pub sifted_begins : Begun ws m w s count
    sifted_begins = record {
      all_there = f.all_there;
      ready = worked_on (first-ready p) sifted;
      queue = sifted_queue;
      most = omega (arith, sifted_size, f.most);
      long = sifted_long;
      below = sifted_below;
      low = sifted_low;
    }

    -- what the pass has left can be searched instead
    module _ (e : isBroken ≡ false) (k : kept ≤ length room) where
      pub lightens : Lightens ws w (take count s) (take kept room)
      lightens = record {
        formed = rw sifted_size f.formed;
        most = omega (arith, sifted_size, f.most);
        places = (c.left e k).places;
        set_in = sifted_set;
      }

      lighter : Lighter ws w (take count s) (clauses_at ws (take kept room)) m
      lighter = record { formed = rw sifted_size all-formed; low = sifted_low; all_set = sifted_set; cover = sifted_cover; left = spares_left (c.left e k) }

      module _ {rest : List ℕ} (written : rest ≡ words_of (lightened w (take count s) (clauses_at ws (take kept room)))) where
        pub left_begins : Begun rest m w s count
        left_begins = record {
          all_there = lighter_whole lighter written;
          ready = record { formed = rest-formed lighter written; values = (worked_on (first-ready p) sifted).values; counted = sifted.grown.counted; room = (worked_on (first-ready p) sifted).room };
          queue = sifted_queue;
          most = omega (arith, sifted_size, f.most);
          long = sifted_long;
          below = sifted_below;
          low = λ u q. sifted_low u (from-rest lighter written u q);
        }

        pub left-outcome : (r : Ending) (x : List ℕ) (u : ℕ) → EndsWith (search_tried (with_triangles rest m) (length w) b) r x u → EndsWith (search_tried (with_triangles ws m) (length v) b) r x u
        left-outcome r x u q = rw sifted_size at (lighter_ends lighter written b r x u q)

-- the first k of n elements are k
pub prefix_long : {k n : ℕ} (l : List ℕ) → k ≤ n → n ≡ length l → k ≡ length (take k l)
prefix_long {k} {n} l h e = sym (length-take-le k l (omega (arith, h, e)))

-- ---- the first closing, from where the search has begun

module _ {ws v t : List ℕ} {m start : ℕ} (f : Begun ws m v t start) (b : ℕ) where
  begun-formed : Formed (with_triangles ws m) (length v)
  begun-formed = f.ready.formed

  module _ {w s : List ℕ} {count : ℕ} {isBroken : Bool} (c : Settles (with_triangles ws m) v t start w s isBroken count) where
    closed : Closes (with_triangles ws m) (replicate (length v) 2) (closed_by isBroken w)
    closed = closes-below (with_triangles ws m) v (closed_by isBroken w) f.low c.closes

    pub first_absent : isBroken ≡ true → (u : ℕ) → EndsWith (search_tried (with_triangles ws m) (length v) b) (Absent 0) w u
    unfolding turn_to undo
    first_absent e u = absent_ends begun-formed (untried (length v)) (turn breaks (start-values (length v)) (rw e at closed) there)

    module _ (e : isBroken ≡ false) where
      first-least : Closes (with_triangles ws m) (replicate (length v) 2) (rests w)
      first-least = rw e at closed

      pub first-solved : count ≡ length w → EndsWith (search_tried (with_triangles ws m) (length v) b) (Found 0) w (not_false w)
      unfolding turn_to decide rested ceiling_by
      first-solved q = found-ends begun-formed (better (with_triangles ws m) (only_true w) (replicate (length v) 0)) (turn (rests w) (start-values (length v)) first-least (rw (lowest-none w 0 (all_set w c.grown.counted q)) there))

      pub first-rested : Rested (with_triangles ws m) (length w) w s count
      first-rested = subst (λ (n : ℕ). Rested (with_triangles ws m) n w s count) (sym (grown-length c.grown)) (record {
        formed = begun-formed;
        size = grown-length c.grown;
        most = f.most;
        long = c.grown.long ∙ f.long;
        counted = c.grown.counted;
        below = λ x k. inside x (append_cases (take start t) (subst (λ (l : List ℕ). Memᴰ x l) c.grown.grows k));
        closed = first-least;
      })
        where
          inside : (x : ℕ) → Memᴰ x (take start t) ⊎ Memᴰ x c.grown.new → x < length v
          inside x (inl k) = f.below x k
          inside x (inr k) = c.grown.below x k

      -- what comes of the search from here on
      pub first-outcome : (r : Ending) (x : List ℕ) {u k : ℕ} → k ≡ u → EndsWith (search_tried (with_triangles ws m) (length w) b) r x u → EndsWith (search_tried (with_triangles ws m) (length v) b) r x k
      first-outcome r x {u} {k} p q = subst (λ (n : ℕ). EndsWith (search_tried (with_triangles ws m) n b) r x k) (grown-length c.grown) (subst (EndsWith (search_tried (with_triangles ws m) (length w) b) r x) (sym p) q)

-- ---- from the values at rest on

pub turning : {cs : List (List ℕ)} {n : ℕ} {v t : List ℕ} {count : ℕ} (b : ℕ) (ms : List ℕ) → Rested cs n v t count → length ms ≡ 780 → Turning cs n b (not_false v) v t ms count count 0 0 0
turning {cs} {n} {v} {t} {count} b ms r q = record {
  ready = record {
    formed = rw r.size r.formed;
    values = record { long = refl; small = r.closed.small };
    counted = r.counted;
    room = omega (arith, r.size, r.most, r.long);
  };
  queue = record {
    inside = omega arith;
    queued = λ x m. absurd (not-nil (rw slice_empty at m));
    waiting = rest-waiting (slice count count t) r.closed.at_rest;
  };
  size = r.size;
  most = r.most;
  long = r.long;
  marks = q;
  below = r.below;
  guesses = [];
  stands = none;
  low_in = zero-le;
  lower = λ j h. absurd (omega arith);
  few = zero-le;
  held = replicate n 0;
  holds = holds-closed (holds-start cs n) r.closed;
  leads = λ e l. rested_leads (start-values n) r.closed l;
}

module _ {cs : List (List ℕ)} {v t ms w s : List ℕ} {n b most from count depth made low more : ℕ} {isBroken : Bool} (i : Turning cs n b most v t ms from count depth made low) (c : Settles cs v t count w s isBroken more) where
  pub after-size : length w ≡ n
  after-size = grown-length c.grown ∙ i.size

  pub after-long : length s ≡ 780
  after-long = c.grown.long ∙ i.long

  -- more variables are set, and the trail has room for all
  pub after-count : (more ≤ n) × (n ≤ length s)
  after-count = (omega (arith, c.grown.counted, after-size), omega (arith, i.most, after-long))

  trail-length : length (take more s) ≡ more
  trail-length = length-take-le more s (omega (arith, after-count))

  after-stands : Stands cs n ms w (take more s) depth i.guesses
  after-stands = subst (λ (p : List ℕ). Stands cs n ms w p depth i.guesses) (sym c.grown.grows) (stands-more w c.grown.new c.grown.back i.stands)

  after-below : (x : ℕ) → Memᴰ x (take more s) → x < n
  after-below x m = go (append_cases (take count t) (subst (λ (p : List ℕ). Memᴰ x p) c.grown.grows m))
    where
      go : Memᴰ x (take count t) ⊎ Memᴰ x c.grown.new → x < n
      go (inl k) = i.below x k
      go (inr k) = omega (arith, c.grown.below x k, i.size)

  pub after-places : (j : ℕ) → j < more → get_or s j 0 < length w
  after-places j h = rw after-size (after-below (get_or s j 0) (subst (λ (y : ℕ). Memᴰ y (take more s)) (get_or-take more s j 0 h) (get_d_mem (take more s) j 0 (omega (arith, trail-length)))))

  pub after_depth : depth ≤ more
  after_depth = omega (arith, depth_le after-stands, trail-length)

  -- the trials can be walked back
  pub can_retrace : Retraceable w s ms depth more
  can_retrace = record {
    few = omega (arith, after_depth, after-count, i.most);
    room = omega (arith, after-count);
    below = after-places;
    places = λ e h. omega (arith, stands-places after-stands e h, trail-length);
    ascend = λ e f h k. stands-ascend after-stands e f h k;
  }

  formed : Formed cs n
  formed = rw i.size at i.ready.formed

  values : Values n v
  values = rw i.size at i.ready.values

  -- ---- a clause is broken

  module _ (e : isBroken ≡ true) where
    broke : Closes cs v breaks
    broke = rw e at c.closes

    -- no guess stands
    pub turn_absent : depth ≡ 0 → EndsWith (search_tried cs n b) (Absent made) w most
    unfolding turn_to undo
    turn_absent z =
        absent_ends formed (trials_of i.held most)
        (i.leads _ (subst (λ (gs : List Guess). TriesTo cs n b (goes (state_of v gs made)) (trials_of i.held most) (end_of (none_exists made) (trials_of i.held most))) (sym (no_guess i.stands z)) (turn breaks values broke there)))

    module _ (d : ℕ) {mark : ℕ} (q : depth ≡ suc d) (m : mark ≡ get_or ms d 0) where
      top : Latest cs n ms w (take more s) d i.guesses
      top = latest (subst (λ (k : ℕ). Stands cs n ms w (take more s) k i.guesses) q after-stands)

      pub place : mark < more
      place = omega (arith, top.place, trail-length)

      pub can_undo : Undoable w s mark more
      can_undo = record {
        inside = place;
        room = omega (arith, after-count);
        below = after-places;
      }

      -- as many were set before the guess as its place says, and earlier guesses have earlier places
      pub counted-before : mark + unset_count (unsetting w (slice mark more s)) ≡ length w
      counted-before =
          let back : unsetting w (slice mark more s) ≡ top.values = ap (λ (k : ℕ). unsetting w (drop k (take more s))) m ∙ top.back in
          rw back (omega (arith, m, top.counted, after-size))

      pub earlier-mark : (f : ℕ) → d ≡ suc f → get_or ms f 0 ≤ mark
      earlier-mark f z = omega (arith, m, stands-ascend after-stands f d (omega (arith, z)) (omega (arith, q)))

      module _ {u : List ℕ} {x : ℕ} (r : Undone w s mark more u x) where
        -- the guessed variable, and the values before the guess
        guessed : x ≡ get_or (take more s) (get_or ms d 0) 0
        guessed = r.variable ∙ sym (get_or-take more s mark 0 place) ∙ ap (λ (k : ℕ). get_or (take more s) k 0) m

        restored : unsetting w (slice mark more s) ≡ top.values
        restored = ap (λ (k : ℕ). unsetting w (drop k (take more s))) m ∙ top.back

        undone : u ≡ set top.values x 0
        undone = r.values ∙ ap (λ (y : List ℕ). set y x 0) restored

        pub inside : x < n
        inside = rw guessed (after-below _ (get_d_mem (take more s) (get_or ms d 0) 0 top.place))

        was_unset : value_of top.values x ≡ 2
        was_unset =
            ap (λ (y : List ℕ). value_of y x) (sym top.back)
            ∙ ap (value_of (unsetting w (drop (get_or ms d 0) (take more s)))) guessed
            ∙ unset-first w (take more s) (get_or ms d 0) top.place (omega (arith, inside, guessed, after-size))

        same-part : take (mark + 1) s ≡ take (mark + 1) (take more s)
        same-part = sym (take-take (mark + 1) more s (omega (arith, place)))

        shorter : take (mark + 1) s ≡ take (get_or ms d 0) (take more s) ++ (x ∷ [])
        shorter = same-part ∙ rw (add-one, m, guessed) (take-suc (take more s) (get_or ms d 0) 0 top.place)

        undone_size : length u ≡ n
        undone_size = ap length undone ∙ length-set top.values x 0 ∙ top.formed.long

        pub turn_undo : Turning cs n b most u s ms mark (mark + 1) d made (x + 1)
        turn_undo = record {
          ready = record {
            formed = rw undone_size formed;
            values = rw undone_size (rw undone (set_values n top.values x 0 (omega arith) top.formed));
            counted = omega (arith, undone_size, ap unset_count undone, unset_set top.values x 0 (omega (arith, inside, top.formed.long)) was_unset (omega arith), top.counted);
            room = omega (arith, undone_size, after-count);
          };
          queue = rw undone (queue-one top.at_rest (omega (arith, inside, top.formed.long)) (omega arith) (omega (arith, place, after-count)) r.variable);
          size = undone_size;
          most = i.most;
          long = after-long;
          marks = i.marks;
          below = λ y k. after-below y (mem-take (mark + 1) (take more s) y (subst (λ (p : List ℕ). Memᴰ y p) same-part k));
          guesses = top.rest;
          stands = rw (shorter, undone) (stands-more (set top.values x 0) (x ∷ []) (unsetting_store top.values x 0 was_unset) top.stands);
          low_in = omega (arith, inside);
          lower = rw undone (set-lower top.values x 0 (omega (arith, inside, top.formed.long)) (omega arith) (λ j h. top.lower j (omega (arith, guessed))));
          few = i.few;
          held = i.held;
          holds = subst (λ (y : List ℕ). Holds cs n y top.rest i.held) (ap (λ (y : ℕ). set top.values y 0) (sym guessed) ∙ sym undone) (holds_undone i.holds top.guesses broke);
          leads = λ e l. i.leads e (again e l);
        }
          where
            again : (e : Tried) → TriesTo cs n b (goes (state_of u top.rest made)) (trials_of i.held most) e → TriesTo cs n b (goes (state_of v i.guesses made)) (trials_of i.held most) e
            again e l = rw top.guesses (undo_leads values broke (rw (← guessed, ← undone) l))

  -- ---- the values are at rest

  module _ (e : isBroken ≡ false) where
    least : Closes cs v (rests w)
    least = rw e at c.closes

    after-values : Values n w
    after-values = record { long = after-size; small = least.small }

    after_lower : {x : ℕ} → NextUnset w low x → (j : ℕ) → j < x → value_of w j ≢ 2
    after_lower f j h = go (dec_lt j low)
      where
        go : Dec (j < low) → value_of w j ≢ 2
        go (yes l) = λ z. i.lower j l (sym (least.extends.keeps j (i.lower j l)) ∙ z)
        go (no l) = f.passed j (omega arith) h

    -- the trial that is then held
    abbrev best : List ℕ
    best = better cs (only_true w) i.held

    rests_with :
        (e : Tried) → TriesTo cs n b (decide b (state_of w i.guesses made) (lowest_unset w 0)) (trials_of best most) e
        → TriesTo cs n b (goes (state_of v i.guesses made)) (trials_of i.held most) e
    unfolding turn_to rested ceiling_by
    rests_with e l = turn (rests w) values least l

    -- nothing is unset
    pub turn_solved : NextUnset w low (length w) → EndsWith (search_tried cs n b) (Found made) w most
    unfolding decide
    turn_solved f = found-ends formed best (i.leads (end_of (solved w made) (trials_of best most)) (rests_with (end_of (solved w made) (trials_of best most)) (rw (lowest-none w 0 (after_lower f)) there)))

    module _ {x : ℕ} (f : LowestUnset w low x) where
      guess_unset : value_of w x ≡ 2
      guess_unset = f.first.found f.inside

      first : lowest_unset w 0 ≡ some x
      first = let z : 0 + x ≡ x = omega arith in lowest-some w 0 x f.inside guess_unset (after_lower f.first) ∙ ap some z

      -- the budget is spent
      spent_ends : made ≡ b → search_tried cs n b ≡ end_of (spent made) (trials_of best most)
      unfolding decide
      spent_ends p = ended formed (trials_of best most) (i.leads (end_of (spent made) (trials_of best most)) (rests_with (end_of (spent made) (trials_of best most)) (rw (first, eq-eqb made b p, decide) there)))

      -- the values are walked back
      pub turn_spent : (ds : List (List ℕ)) {u : List ℕ} → ((y : List ℕ) → Values n y → AtRest cs y → satisfied cs (only_true y) ≡ satisfied ds (only_true y)) → made ≡ b
          → u ≡ back_along ds ms w (take more s) depth → EndsWith (search_tried cs n b) (Spent made) u most
      turn_spent ds {u} same p q =
          let held : best ≡ u = holds_latest (holds-closed i.holds least) after-values x ∙ stands-back ds same x after-values least.at_rest after-stands ∙ sym q in
          spent_ends p ∙ (λ j. end_of (spent made) (trials_of (held j) most))

      -- a guess
      further : Grown w s more (set w x 1) (set s more x) (more + 1)
      further = grown_store c.grown.counted (omega (arith, after-size, after-count)) f.inside guess_unset (omega arith)

      pub room-left : more < n
      room-left = omega (arith, c.grown.counted, after-size, unset_set w x 0 f.inside guess_unset (omega arith))

      pub can_guess : {l m : ℕ} {joined apart : List ℕ} → l ≡ 2 * x → Rows m w joined apart → Settable m w joined apart (l / 2) (1 - l % 2) × (more < length s)
      can_guess {l} z o =
          let half : l / 2 ≡ x = omega arith in
          (record { rows = o; inside = rw half f.inside; unset = rw half guess_unset; small = omega arith }, omega (arith, room-left, after-count))

      longer : take (more + 1) (set s more x) ≡ take more s ++ (x ∷ [])
      longer = rw add-one (take-suc-set s more x (omega (arith, room-left, after-count)))

      guess_size : length (set w x 1) ≡ n
      guess_size = length-set w x 1 ∙ after-size

      guessed_stands : Stands cs n (set ms depth (length (take more s))) (set w x 1) (take more s ++ (x ∷ [])) (suc depth) (guess_of w x ∷ i.guesses)
      guessed_stands =
          stands_guess (omega (arith, after_depth, room-left, i.most, i.marks)) after-values (omega (arith, trail-length, c.grown.counted, after-size)) guess_unset (after_lower f.first) least.at_rest after-stands

      guess_made : (made ≡ b → ⊥) → Turning cs n b most (set w x 1) (set s more x) (set ms depth more) more (more + 1) (depth + 1) (made + 1) (x + 1)
      guess_made p = record {
        ready = record {
          formed = rw guess_size formed;
          values = rw guess_size (set_values n w x 1 (omega arith) after-values);
          counted = further.counted;
          room = omega (arith, guess_size, after-count, length-set s more x);
        };
        queue = queue-one least.at_rest f.inside (omega arith) (omega (arith, room-left, after-count, length-set s more x)) (sym (get_or-set_same s more x 0 (omega (arith, room-left, after-count))));
        size = guess_size;
        most = i.most;
        long = length-set s more x ∙ after-long;
        marks = length-set ms depth more ∙ i.marks;
        below = λ y k. pick y (append_cases (take more s) (subst (λ (l : List ℕ). Memᴰ y l) longer k));
        guesses = guess_of w x ∷ i.guesses;
        stands = rw (longer, add-one depth) (rw trail-length at guessed_stands);
        low_in = omega (arith, f.inside, after-size);
        lower = set-lower w x 1 f.inside (omega arith) (after_lower f.first);
        few = omega (arith, i.few);
        held = best;
        holds = holds_guess (holds-closed i.holds least) after-values x (omega (arith, f.inside, after-size)) guess_unset;
        leads = λ e l. i.leads e (rests_with e (again e l));
      }
        where
          pick : (y : ℕ) → Memᴰ y (take more s) ⊎ Memᴰ y (x ∷ []) → y < n
          pick y (inl k) = after-below y k
          pick y (inr k) = omega (arith, eq_of_singleton k, f.inside, after-size)

          again :
              (e : Tried) → TriesTo cs n b (goes (state_of (set w x 1) (guess_of w x ∷ i.guesses) (made + 1))) (trials_of best most) e
              → TriesTo cs n b (decide b (state_of w i.guesses made) (lowest_unset w 0)) (trials_of best most) e
          again e l = unfold decide in rw (first, ne_eqb made b p, decide) l

      pub turn_guess :
          (made ≡ b → ⊥) → {l m last : ℕ} {u r joined apart : List ℕ} → l ≡ 2 * x → Forced m w s more l u r joined apart last
          → Turning cs n b most u r (set ms depth more) more last (depth + 1) (made + 1) (x + 1)
      turn_guess p {l} z h =
          let half : l / 2 ≡ x = omega arith in
          let sign : 1 - l % 2 ≡ 1 = omega arith in
          rw (h.assigned.values, h.trail, h.count-more, half, sign) (guess_made p)

-- ---- group 2 holds in every trial at rest

satisfied-append : (cs ds : List (List ℕ)) (a : List ℕ) → satisfied (cs ++ ds) a ≡ (satisfied cs a && satisfied ds a)
unfolding satisfied
satisfied-append [] ds a = refl
satisfied-append (c ∷ cs) ds a = ap (λ (t : Bool). any (is_right a) c && t) (satisfied-append cs ds a) ∙ sym (and_assoc (any (is_right a) c) (satisfied cs a) (satisfied ds a))
  where
    and_assoc : (s t u : Bool) → ((s && t) && u) ≡ (s && (t && u))
    and_assoc true t u = refl
    and_assoc false t u = refl

-- so only the list is to be tried
pub short_trial :
    (ws : List ℕ) (m : ℕ) {n : ℕ} → Formed (with_triangles ws m) n → (u : List ℕ) → Values n u → AtRest (with_triangles ws m) u
    → satisfied (with_triangles ws m) (only_true u) ≡ satisfied (clauses_in ws) (only_true u)
short_trial ws m f u z q = satisfied-append (clauses_in ws) (triangles m) (only_true u) ∙ rw group (and_left (satisfied (clauses_in ws) (only_true u)))
  where
    group : satisfied (triangles m) (only_true u) ≡ true
    group = horn_trial (triangles_horn m) (record { below = λ c k. f.below c (Memᴰ.append_right (clauses_in ws) k) }) z (λ c k. q c (Memᴰ.append_right (clauses_in ws) k))

    and_left : (t : Bool) → (t && true) ≡ t
    and_left true = refl
    and_left false = refl
