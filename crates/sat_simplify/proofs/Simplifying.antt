-- Laws for what is left of a list: how it is written, and that it is at rest under the same values as the list. Assumes nothing.
use mathlib.Core.Path.{◌≡◌, refl, sym, ap, ◌∙◌, subst}
use mathlib.Core.Logic.{◌⊎◌, inl, inr, ◌≢◌}
use mathlib.Core.Bool.{Bool, true, false, not, true≢false}
use mathlib.Core.List.Memᴰ
use mathlib.Core.List.Memᴰ.{append_cases}
use mathlib.Core.List.Memᴰ.{eq_of_singleton}
use mathlib.Core.List.Memᴰ.{not-nil}
use mathlib.Core.List.{List, [], ◌∷◌, ◌++◌, map, append-nil, append_assoc, Memᴰ}
use Prim.Native.Nat.{ℕ, suc, ◌+◌, ◌-◌, ◌*◌, ◌/◌, ◌≤◌, ◌<◌}
use native.Mathlib.Numerals.{add-one}
use native.Mathlib.Omega.{arith}
use native.Mathlib.Decide.{ℕ_discrete, dec_lt}
use lib.ListN.{length, get_or, set, take, drop, length-drop, drop_of_length-le, get_or-eq_default}
use lib.Seq.{take-suc, take-length, drop-cons, length-take-le}
use lib.Dec.{eqb}
use borrow.Author.Tests.{eq-eqb, ne_eqb}
use Rattle.lists.specs.Lists.{any, filter, upto}
use Rattle.lists.proofs.Members.{any-true, filter-mem, filter_of, get_d_any, upto-mem, upto_of}
use Rattle.lists.proofs.Counts.{filter-append, concat_map-append, map_of_lem}
use Rattle.cnf.specs.Clauses.{value_of, clauses_in, whole, words_of, Right}
use Rattle.cnf.specs.Search.{is_right, is_unset}
use Rattle.cnf.specs.Closing.{Formed, ◌⊑◌, Settled, holds, waits, AtRest}
use Rattle.cnf.proofs.Values.{set_cases}
use Rattle.cnf.proofs.Found.{right_is}
use Rattle.cnf.proofs.Words.{clauses_nil}
use Rattle.sat_trail.specs.Conclusions.{saying}
use Rattle.sat_trail.specs.Trail.{unsetting}
use Rattle.sat_literal.specs.Literals.{Over, clause_at}
use Rattle.sat_literal.proofs.Walking.{clause-words, Before, before-first, before-next, end_inside, at_clauses, clause_in}
use Rattle.sat_scan.specs.Scan.{StandsAt, Left}
use Rattle.sat_scan.proofs.Scanning.{any-more}
use Rattle.sat_simplify.specs.Simplify.{units, unheld, lightened, clauses_at, set_below, variables_set, AllSet, Written, PutUnit, PutOpen}

-- ---- members of a mapped list

module _ {B : Type 0} (f : ℕ → B) where
  mapped : (xs : List ℕ) (y : B) → Memᴰ y (map f xs) → (x : ℕ) × Memᴰ x xs × (y ≡ f x)
  mapped [] y m = absurd (not-nil m)
  mapped (x ∷ xs) y (Memᴰ.head e) = (x, Memᴰ.head refl, e)
  mapped (x ∷ xs) y (Memᴰ.tail k) = let r = mapped xs y k in (r.0, Memᴰ.tail r.1, r.2)

  mapped_snoc : (xs : List ℕ) (x : ℕ) → map f (xs ++ (x ∷ [])) ≡ map f xs ++ (f x ∷ [])
  mapped_snoc [] x = refl
  mapped_snoc (y ∷ xs) x = ap (λ (r : List B). f y ∷ r) (mapped_snoc xs x)

-- ---- the words of clauses

words_snoc : (cs : List (List ℕ)) (c : List ℕ) → words_of (cs ++ (c ∷ [])) ≡ words_of cs ++ (length c ∷ c)
unfolding words_of
words_snoc cs c = concat_map-append (λ c. length c ∷ c) cs (c ∷ []) ∙ ap (λ (r : List ℕ). words_of cs ++ (length c ∷ r)) (append-nil c)

-- ---- a clause for each variable

-- those of the first i variables are put, in `at` words
pub record Uniting (v xs out : List ℕ) (at i : ℕ) : Type 0 where
  pub inside : i ≤ length xs
  pub place : at ≡ 2 * i
  pub words : Written out at (units v (take i xs))

pub uniting : (v xs out : List ℕ) → Uniting v xs out 0 0
unfolding units words_of
uniting v xs out = record { inside = omega arith; place = omega arith; words = refl }

-- one more
units-snoc : (v xs : List ℕ) (x : ℕ) {l : ℕ} → l ≡ saying x (value_of v x) → words_of (units v (xs ++ (x ∷ []))) ≡ words_of (units v xs) ++ (1 ∷ l ∷ [])
unfolding units
units-snoc v xs x e =
    ap words_of (mapped_snoc (λ x. saying x (value_of v x) ∷ []) xs x) ∙ words_snoc (units v xs) (saying x (value_of v x) ∷ []) ∙ ap (λ (k : ℕ). words_of (units v xs) ++ (1 ∷ k ∷ [])) (sym e)

unit_put :
    (v xs ys out out' : List ℕ) (at l x r : ℕ) → Written out at (units v xs) → ys ≡ xs ++ (x ∷ []) → l ≡ saying x (value_of v x)
    → take r out' ≡ take at out ++ (1 ∷ l ∷ []) → Written out' r (units v ys)
unit_put v xs ys out out' at l x r w q e p = p ∙ ap (λ (k : List ℕ). k ++ (1 ∷ l ∷ [])) w ∙ sym (units-snoc v xs x e) ∙ ap (λ (z : List ℕ). words_of (units v z)) (sym q)

module _ {v xs out : List ℕ} {at i : ℕ} (u : Uniting v xs out at i) where
  pub unite_on :
      {out' : List ℕ} {r : ℕ} → i < length xs → PutUnit v (get_or xs i 0) out at out' r → Uniting v xs out' r (i + 1)
  unite_on {out'} {r} h p = record { inside = omega arith; place = omega (arith, p.0, u.place); words = unit_put v (take i xs) (take (i + 1) xs) out out' at _ (get_or xs i 0) r u.words (rw add-one (take-suc xs i 0 h)) refl p.1 }

  pub unite_all : length xs ≤ i → (at ≡ 2 * length xs) × Written out at (units v xs)
  unite_all h = let e : i ≡ length xs = omega (arith, u.inside) in (omega (arith, u.place), u.words ∙ rw (e, take-length))

-- those of the variables below x that are set are put, in `at` words
pub record Setting (v out : List ℕ) (at x : ℕ) : Type 0 where
  pub inside : x ≤ length v
  pub few : at ≤ 2 * x
  pub words : Written out at (units v (set_below v x))

pub setting : (v out : List ℕ) → Setting v out 0 0
unfolding units set_below upto filter words_of
setting v out = record { inside = omega arith; few = omega arith; words = refl }

module _ {v out : List ℕ} {at x : ℕ} (u : Setting v out at x) where
  one_more : set_below v (x + 1) ≡ set_below v x ++ filter (λ y. not (eqb (value_of v y) 2)) (x ∷ [])
  unfolding set_below upto
  one_more = rw add-one (filter-append (λ y. not (eqb (value_of v y) 2)) (upto x) (x ∷ []))

  pub set_past : x < length v → get_or v x 0 ≡ 2 → Setting v out at (x + 1)
  set_past h e = record { inside = omega arith; few = omega (arith, u.few); words = u.words ∙ ap (λ (z : List ℕ). words_of (units v z)) (sym same) }
    where
      same : set_below v (x + 1) ≡ set_below v x
      same = one_more ∙ (unfold filter in rw (eq-eqb (value_of v x) 2 (get_d_any v x 2 0 h ∙ e), filter) (append-nil (set_below v x)))

  pub set_put : {out' : List ℕ} {r : ℕ} → x < length v → get_or v x 0 ≢ 2 → PutUnit v x out at out' r → Setting v out' r (x + 1)
  set_put {out'} {r} h e p = record { inside = omega arith; few = omega (arith, p.0, u.few); words = unit_put v (set_below v x) (set_below v (x + 1)) out out' at _ x r u.words more refl p.1 }
    where
      more : set_below v (x + 1) ≡ set_below v x ++ (x ∷ [])
      more = one_more ∙ (unfold filter in rw (ne_eqb (value_of v x) 2 (λ z. e (sym (get_d_any v x 2 0 h) ∙ z)), filter))

  pub set_all : length v ≤ x → (at ≤ 2 * length v) × Written out at (units v (variables_set v))
  set_all h = let e : x ≡ length v = omega (arith, u.inside) in (omega (arith, u.few), u.words ∙ ap (λ (n : ℕ). words_of (units v (set_below v n))) e)

-- ---- clauses that do not hold

module _ (v c out : List ℕ) (at : ℕ) where
  pub put_held : any (is_right v) c ≡ true → PutOpen v c out at out at
  unfolding unheld filter words_of
  put_held e = record { words = rw (e, filter) (sym (append-nil (take at out))) }

  pub put_unheld : {out' put : List ℕ} {r : ℕ} → any (is_right v) c ≡ false → take r out' ≡ take at out ++ put → put ≡ length c ∷ c → PutOpen v c out at out' r
  unfolding unheld filter words_of
  put_unheld e p q = record { words = p ∙ ap (λ (k : List ℕ). take at out ++ k) (q ∙ rw (e, filter) (sym (append-nil (length c ∷ c)))) }

-- what is left of the clauses so far
pub record Lightened (v xs : List ℕ) (cs : List (List ℕ)) (out : List ℕ) (at : ℕ) : Type 0 where
  pub room : at ≤ length out
  pub words : Written out at (lightened v xs cs)

module _ {v xs : List ℕ} where
  lightened-none : {out : List ℕ} {at m : ℕ} → at ≤ m → m ≡ length out → Written out at (units v xs) → Lightened v xs [] out at
  unfolding unheld filter
  lightened-none h e p = record { room = omega (arith, h, e); words = p ∙ ap words_of (sym (append-nil (units v xs))) }

  lightened-more : {out out' c : List ℕ} {cs ds : List (List ℕ)} {at r : ℕ} → Lightened v xs cs out at → ds ≡ cs ++ (c ∷ []) → r ≤ length out' → PutOpen v c out at out' r → Lightened v xs ds out' r
  lightened-more {c = c} {cs = cs} w q k p = record { room = k; words = p.words ∙ ap (λ (z : List ℕ). z ++ words_of (unheld v (c ∷ []))) w.words ∙ sym last ∙ ap (λ (z : List (List ℕ)). words_of (lightened v xs z)) (sym q) }
    where
      split : unheld v (cs ++ (c ∷ [])) ≡ unheld v cs ++ unheld v (c ∷ [])
      split = unfold unheld in filter-append (λ c. not (any (is_right v) c)) cs (c ∷ [])

      joined : words_of (lightened v xs cs ++ unheld v (c ∷ [])) ≡ words_of (lightened v xs cs) ++ words_of (unheld v (c ∷ []))
      joined = unfold words_of in concat_map-append (λ c. length c ∷ c) (lightened v xs cs) (unheld v (c ∷ []))

      last : words_of (lightened v xs (cs ++ (c ∷ []))) ≡ words_of (lightened v xs cs) ++ words_of (unheld v (c ∷ []))
      last = ap (λ (z : List (List ℕ)). words_of (units v xs ++ z)) split ∙ ap words_of (sym (append_assoc (units v xs) (unheld v cs) (unheld v (c ∷ [])))) ∙ joined

-- those at the first i places are looked at; there are `at` words so far
pub record Lightening (ws v xs ps out : List ℕ) (at i : ℕ) : Type 0 where
  pub inside : i ≤ length ps
  pub so_far : Lightened v xs (clauses_at ws (take i ps)) out at

module _ {ws v xs ps : List ℕ} where
  pub lightening : {out : List ℕ} {at m : ℕ} → at ≤ m → m ≡ length out → Written out at (units v xs) → Lightening ws v xs ps out at 0
  lightening h e p = record { inside = omega arith; so_far = lightened-none h e p }

  module _ {out : List ℕ} {at i : ℕ} (w : Lightening ws v xs ps out at i) where
    pub simplify_on : {out' : List ℕ} {r : ℕ} → i < length ps → r ≤ length out' → PutOpen v (clause_at ws (get_or ps i 0)) out at out' r → Lightening ws v xs ps out' r (i + 1)
    simplify_on h k p = record { inside = omega arith; so_far = lightened-more w.so_far (rw (add-one, take-suc ps i 0 h) (mapped_snoc (clause_at ws) (take i ps) (get_or ps i 0))) k p }

    pub simplify_all : length ps ≤ i → Written out at (lightened v xs (clauses_at ws ps))
    simplify_all h = let e : i ≡ length ps = omega (arith, w.inside) in w.so_far.words ∙ rw (e, take-length)

-- the clauses before `end` are looked at
pub record Walked (ws v xs out : List ℕ) (at end : ℕ) : Type 0 where
  pub before : Before ws end
  pub passed : List (List ℕ)
  pub all_are : clauses_in ws ≡ passed ++ clauses_in (drop end ws)
  pub so_far : Lightened v xs passed out at

module _ {ws v xs : List ℕ} where
  pub walked : {out : List ℕ} {at m : ℕ} → whole ws ≡ true → at ≤ m → m ≡ length out → Written out at (units v xs) → Walked ws v xs out at 0
  walked w h e p = record { before = before-first w; passed = []; all_are = refl; so_far = lightened-none h e p }

  module _ {out : List ℕ} {at end : ℕ} (w : Walked ws v xs out at end) where
    pub walk_on : {out' : List ℕ} {r : ℕ} → end < length ws → r ≤ length out' → PutOpen v (clause_at ws end) out at out' r → Walked ws v xs out' r (end + 1 + get_or ws end 0)
    walk_on h k p = record {
      before = before-next w.before h;
      passed = w.passed ++ (clause_at ws end ∷ []);
      all_are = w.all_are ∙ ap (λ (z : List (List ℕ)). w.passed ++ z) (at_clauses w.before h) ∙ sym (append_assoc w.passed (clause_at ws end ∷ []) (clauses_in (drop (end + 1 + get_or ws end 0) ws)));
      so_far = lightened-more w.so_far refl k p;
    }

    pub walk-all : length ws ≤ end → Written out at (lightened v xs (clauses_in ws))
    walk-all h = w.so_far.words ∙ ap (λ (z : List (List ℕ)). words_of (lightened v xs z)) (sym (w.all_are ∙ rw (drop_of_length-le ws h, clauses_nil) (append-nil w.passed)))

    pub stands_here : end < length ws → StandsAt ws end
    stands_here h = record { starts = h; ends = end_inside w.before h; clause = clause_in w.before h }

-- the words that the code lends: the clause at place q, which it has read as p, and k as its count
module _ {ws : List ℕ} {p q k : ℕ} (e : p ≡ q) (s : StandsAt ws q) (d : k ≡ get_or ws p 0) where
  same_count : k ≡ get_or ws q 0
  same_count = d ∙ ap (λ (i : ℕ). get_or ws i 0) e

  pub lent-ends : p + 1 + k ≤ length ws
  lent-ends = omega (arith, s.ends, same_count)

  lent-clause : take (p + 1 + k - (p + 1)) (drop (p + 1) ws) ≡ clause_at ws q
  lent-clause = clause-words ws p d ∙ ap (clause_at ws) e

  pub lent-formed : {n : ℕ} → Formed (clauses_in ws) n → Over (take (p + 1 + k - (p + 1)) (drop (p + 1) ws)) n
  lent-formed f = rw lent-clause (f.below (clause_at ws q) s.clause)

  pub lent-held : (v : List ℕ) {t : Bool} → t ≡ any (is_right v) (take (p + 1 + k - (p + 1)) (drop (p + 1) ws)) → any (is_right v) (clause_at ws q) ≡ t
  lent-held v h = sym (h ∙ ap (any (is_right v)) lent-clause)

  clause-size : length (clause_at ws q) ≡ k
  clause-size = ap length (sym lent-clause) ∙ length-take-le (p + 1 + k - (p + 1)) (drop (p + 1) ws) (omega (arith, length-drop (p + 1) ws, lent-ends)) ∙ omega arith

  -- its count first
  pub lent-words : take (p + 1 + k - p) (drop p ws) ≡ length (clause_at ws q) ∷ clause_at ws q
  lent-words =
      let size : p + 1 + k - p ≡ suc k = omega arith in
      let rest : p + 1 + k - (p + 1) ≡ k = omega arith in
      let words : take k (drop (suc p) ws) ≡ clause_at ws q = rw (rest, add-one p) at lent-clause in
      let head : get_or ws p 0 ≡ length (clause_at ws q) = sym d ∙ sym clause-size in
      rw (size, drop-cons ws p 0 (omega (arith, lent-ends))) (λ i. head i ∷ words i)

  pub lent-size : length (take (p + 1 + k - p) (drop p ws)) ≡ k + 1
  lent-size = ap length lent-words ∙ omega (arith, clause-size)

-- ---- at rest under the same values

-- a variable that is set is one of those that are unset again
pub covered : (v xs : List ℕ) (x : ℕ) → value_of (unsetting v xs) x ≡ 2 → value_of v x ≢ 2 → Memᴰ x xs
unfolding unsetting
covered v [] x e h = absurd (h e)
covered v (y ∷ xs) x e h = go (ℕ_discrete x y) (λ p. covered v xs x p h)
  where
    other : x ≢ y → ((x ≡ y) × (value_of (set (unsetting v xs) y 2) x ≡ 2)) ⊎ (value_of (set (unsetting v xs) y 2) x ≡ value_of (unsetting v xs) x) → value_of (unsetting v xs) x ≡ 2
    other n (inl p) = absurd (n p.0)
    other n (inr p) = sym p ∙ e

    go : Dec (x ≡ y) → (value_of (unsetting v xs) x ≡ 2 → Memᴰ x xs) → Memᴰ x (y ∷ xs)
    go (yes p) ih = Memᴰ.head p
    go (no n) ih = Memᴰ.tail (ih (other n (set_cases (unsetting v xs) y 2 x)))

-- some clauses of the list, with every one that has no right literal
pub record Spares (ws v : List ℕ) (cs : List (List ℕ)) : Type 0 where
  pub part : (c : List ℕ) → Memᴰ c cs → Memᴰ c (clauses_in ws)
  pub each : (c : List ℕ) → Memᴰ c (clauses_in ws) → (any (is_right v) c ≡ true) ⊎ Memᴰ c cs

pub spares_all : (ws v : List ℕ) → Spares ws v (clauses_in ws)
spares_all ws v = record { part = λ c m. m; each = λ c m. inr m }

pub spares_left : {ws v ps : List ℕ} → Left ws v ps → Spares ws v (clauses_at ws ps)
spares_left {ws} {v} {ps} left = record { part = λ c m. at_place c (mapped (clause_at ws) ps c m); each = λ c m. go c (left.each c m) }
  where
    at_place : (c : List ℕ) → (p : ℕ) × Memᴰ p ps × (c ≡ clause_at ws p) → Memᴰ c (clauses_in ws)
    at_place c r = subst (λ (d : List ℕ). Memᴰ d (clauses_in ws)) (sym r.2) (left.places r.0 r.1).clause

    go : (c : List ℕ) → (any (is_right v) c ≡ true) ⊎ ((p : ℕ) × Memᴰ p ps × (clause_at ws p ≡ c)) → (any (is_right v) c ≡ true) ⊎ Memᴰ c (clauses_at ws ps)
    go c (inl e) = inl e
    go c (inr r) = inr (subst (λ (d : List ℕ). Memᴰ d (clauses_at ws ps)) r.2 (map_of_lem (clause_at ws) r.1))

-- the variables that are set
module _ (v : List ℕ) where
  pub set_in : ((x : ℕ) → value_of v x ≤ 2) → AllSet v (variables_set v)
  unfolding set_below
  set_in small x m =
      let k = filter-mem (λ y. not (eqb (value_of v y) 2)) (upto (length v)) x m in
      (upto-mem (length v) x k.0, omega (arith, small x, not-two k.1))
    where
      not-two : not (eqb (value_of v x) 2) ≡ true → value_of v x ≢ 2
      not-two e z = true≢false (sym e ∙ ap not (eq-eqb (value_of v x) 2 z))

  pub set-all_in : (x : ℕ) → value_of v x ≢ 2 → Memᴰ x (variables_set v)
  unfolding set_below
  set-all_in x h = filter_of (λ y. not (eqb (value_of v y) 2)) (upto (length v)) x (upto_of (length v) x (inside (dec_lt x (length v)))) (ap not (ne_eqb (value_of v x) 2 h))
    where
      inside : Dec (x < length v) → x < length v
      inside (yes k) = k
      inside (no k) = absurd (h (get_or-eq_default v 2 (omega arith)))

module _ {ws v xs : List ℕ} {cs : List (List ℕ)} (ts : List (List ℕ)) (sets : (x : ℕ) → Memᴰ x xs → value_of v x < 2) (cover : (x : ℕ) → value_of v x ≢ 2 → Memᴰ x xs) (left : Spares ws v cs) where
  abbrev unit_of : ℕ → List ℕ
  unit_of x = saying x (value_of v x) ∷ []

  -- the units hold exactly where the values are extended
  units-rest : (u : List ℕ) → v ⊑ u → AtRest (units v xs) u
  unfolding units
  units-rest u p = λ c m. let r = mapped unit_of xs c m in subst (Settled u) (sym r.2) (holds (saying r.0 (value_of v r.0)) (Memᴰ.head refl) (right r.0 r.1))
    where
      right : (x : ℕ) → Memᴰ x xs → Right u (saying x (value_of v x))
      right x m =
          let small = sets x m in
          let half : saying x (value_of v x) / 2 ≡ x = omega arith in
          let e = p.keeps x (omega (arith, small)) in
          omega (arith, ap (value_of u) half, e, small)

  rest-units : (u : List ℕ) → AtRest (units v xs) u → v ⊑ u
  unfolding units filter
  rest-units u q = record { keeps = λ x h. go x (sets x (cover x h)) (q (unit_of x) (map_of_lem unit_of (cover x h))) }
    where
      go : (x : ℕ) → value_of v x < 2 → Settled u (unit_of x) → value_of u x ≡ value_of v x
      go x small (holds l m r) =
          let half : saying x (value_of v x) / 2 ≡ x = omega arith in
          let now : Right u (saying x (value_of v x)) = subst (Right u) (eq_of_singleton m) r in
          omega (arith, ap (value_of u) half, now, small)
      go x small (waits l k ls e) = absurd (few (is_unset u (saying x (value_of v x))) e)
        where
          few : (t : Bool) → elim t as (λ _. List ℕ) [ true ↦ saying x (value_of v x) ∷ [] | false ↦ [] ] ≡ l ∷ k ∷ ls → ⊥
          few true d = absurd (omega (arith, ap length d))
          few false d = absurd (omega (arith, ap length d))

  pub lighter_to : (u : List ℕ) → v ⊑ u → AtRest (clauses_in ws ++ ts) u → AtRest (lightened v xs cs ++ ts) u
  unfolding unheld
  lighter_to u p q = λ c m. go c (append_cases (lightened v xs cs) m)
    where
      kept : (c : List ℕ) → Memᴰ c (units v xs) ⊎ Memᴰ c (unheld v cs) → Settled u c
      kept c (inl m) = units-rest u p c m
      kept c (inr m) =
          let k = filter-mem (λ c. not (any (is_right v) c)) cs c m in
          q c (Memᴰ.append_left ts (left.part c k.0))

      go : (c : List ℕ) → Memᴰ c (lightened v xs cs) ⊎ Memᴰ c ts → Settled u c
      go c (inl m) = kept c (append_cases (units v xs) m)
      go c (inr m) = q c (Memᴰ.append_right (clauses_in ws) m)

  pub lighter_low : (u : List ℕ) → AtRest (lightened v xs cs ++ ts) u → v ⊑ u
  lighter_low u q = rest-units u (λ c m. q c (Memᴰ.append_left ts (Memᴰ.append_left (unheld v cs) m)))

  pub lighter_from : (u : List ℕ) → AtRest (lightened v xs cs ++ ts) u → AtRest (clauses_in ws ++ ts) u
  unfolding unheld
  lighter_from u q = λ c m. go c (append_cases (clauses_in ws) m)
    where
      right : (c : List ℕ) → any (is_right v) c ≡ true → Settled u c
      right c e = let r = any-true (is_right u) c (any-more c (lighter_low u q) e) in holds r.0 r.1 (right_is u r.0 r.2)

      spared : (c : List ℕ) → Memᴰ c cs → (t : Bool) → any (is_right v) c ≡ t → Settled u c
      spared c m true e = right c e
      spared c m false e = q c (Memᴰ.append_left ts (Memᴰ.append_right (units v xs) (filter_of (λ c. not (any (is_right v) c)) cs c m (ap not e))))

      each : (c : List ℕ) → (any (is_right v) c ≡ true) ⊎ Memᴰ c cs → Settled u c
      each c (inl e) = right c e
      each c (inr m) = spared c m (any (is_right v) c) refl

      go : (c : List ℕ) → Memᴰ c (clauses_in ws) ⊎ Memᴰ c ts → Settled u c
      go c (inl m) = each c (left.each c m)
      go c (inr m) = q c (Memᴰ.append_right (lightened v xs cs) m)

  -- the clauses left are over the same variables
  pub lighter_formed : (n : ℕ) → length v ≡ n → AllSet v xs → Formed (clauses_in ws ++ ts) n → Formed (lightened v xs cs ++ ts) n
  unfolding units unheld
  lighter_formed n size all f = record { below = λ c m. go c (append_cases (lightened v xs cs) m) }
    where
      unit : (c : List ℕ) → (x : ℕ) × Memᴰ x xs × (c ≡ unit_of x) → (l : ℕ) → Memᴰ l c → l / 2 < n
      unit c r l m =
          let is : l ≡ saying r.0 (value_of v r.0) = eq_of_singleton (subst (λ (d : List ℕ). Memᴰ l d) r.2 m) in
          omega (arith, is, all r.0 r.1, size)

      kept : (c : List ℕ) → Memᴰ c (units v xs) ⊎ Memᴰ c (unheld v cs) → (l : ℕ) → Memᴰ l c → l / 2 < n
      kept c (inl m) = unit c (mapped unit_of xs c m)
      kept c (inr m) =
          let k = filter-mem (λ c. not (any (is_right v) c)) cs c m in
          f.below c (Memᴰ.append_left ts (left.part c k.0))

      go : (c : List ℕ) → Memᴰ c (lightened v xs cs) ⊎ Memᴰ c ts → (l : ℕ) → Memᴰ l c → l / 2 < n
      go c (inl m) = kept c (append_cases (units v xs) m)
      go c (inr m) = f.below c (Memᴰ.append_right (clauses_in ws) m)
