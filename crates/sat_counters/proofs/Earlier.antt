-- Laws for the values before variables of the trail were set: each of them was unset then, so one after the other is seen to. Assumes nothing.
use mathlib.Core.Path.{◌≡◌, refl, sym, ap, ◌∙◌, subst}
use mathlib.Core.Logic.{◌≢◌}
use mathlib.Core.Bool.{Bool, true, false}
use mathlib.Core.List.{List, [], ◌∷◌}
use Prim.Native.Nat.{ℕ, zero, suc, ◌+◌, ◌≤◌, ◌<◌}
use native.Mathlib.Numerals.{add-one}
use native.Mathlib.Omega.{arith}
use native.Mathlib.Decide.{ℕ_discrete}
use lib.Dec.{eqb}
use lib.ListN.{length, get_or, set, length-set}
use lib.Seq.{slice, slice_empty, slice-cons, length-slice, set-get_or, get_or-set_same, get_or-set_other}
use Rattle.cnf.specs.Clauses.{value_of}
use Rattle.cnf.specs.Closing.{◌⊑◌, unset_count}
use Rattle.sat_trail.specs.Trail.{unsetting, Grown}
use Rattle.sat_trail.proofs.Trails.{unsetting-append, unsetting_store, grown_slice, grown-length}
use Rattle.sat_counters.specs.Counters.{CountersOf}
use Rattle.sat_counters.specs.Earlier.{earlier, CountersBefore}

-- ---- variables unset again

-- one more is unset at most
unset-two : (v : List ℕ) (x : ℕ) → unset_count (set v x 2) ≤ suc (unset_count v)
unfolding unset_count
unset-two [] x = omega arith
unset-two (y ∷ ys) zero = go (eqb y 2)
  where
    go : (t : Bool) → suc (unset_count ys) ≤ suc (elim t as (λ _. ℕ) [ true ↦ suc (unset_count ys) | false ↦ unset_count ys ])
    go true = omega arith
    go false = omega arith
unset-two (y ∷ ys) (suc x) = go (eqb y 2) (unset-two ys x)
  where
    go :
        (t : Bool) → unset_count (set ys x 2) ≤ suc (unset_count ys)
        → elim t as (λ _. ℕ) [ true ↦ suc (unset_count (set ys x 2)) | false ↦ unset_count (set ys x 2) ] ≤ suc (elim t as (λ _. ℕ) [ true ↦ suc (unset_count ys) | false ↦ unset_count ys ])
    go true h = omega (arith, h)
    go false h = h

unset-most : (v qs : List ℕ) → unset_count (unsetting v qs) ≤ unset_count v + length qs
unfolding unsetting
unset-most v [] = omega arith
unset-most v (x ∷ xs) = omega (arith, unset-two (unsetting v xs) x, unset-most v xs)

-- what is set then is set so now
set-unset : (u : List ℕ) (y : ℕ) → value_of (set u y 2) y ≡ 2
set-unset [] y = refl
set-unset (x ∷ xs) zero = refl
set-unset (x ∷ xs) (suc y) = set-unset xs y

pub earlier-extends : (v qs : List ℕ) → unsetting v qs ⊑ v
unfolding unsetting
earlier-extends v qs = record { keeps = go qs }
  where
    step : (u : List ℕ) (y i : ℕ) → (value_of u i ≢ 2 → value_of v i ≡ value_of u i) → Dec (i ≡ y) → value_of (set u y 2) i ≢ 2 → value_of v i ≡ value_of (set u y 2) i
    step u y i ih (yes e) n = absurd (n (ap (value_of (set u y 2)) e ∙ set-unset u y))
    step u y i ih (no e) n = let same = get_or-set_other u y i 2 2 e in ih (λ z. n (same ∙ z)) ∙ sym same

    go : (qs : List ℕ) (i : ℕ) → value_of (unsetting v qs) i ≢ 2 → value_of v i ≡ value_of (unsetting v qs) i
    go [] i n = refl
    go (y ∷ ys) i n = step (unsetting v ys) y i (go ys i) (ℕ_discrete i y) n

-- ---- the trail from a place on

module _ (v t : List ℕ) {count : ℕ} (all : count + unset_count v ≡ length v) (room : count ≤ length t) where
  pub earlier-none : earlier v t count count ≡ v
  unfolding unsetting
  earlier-none = ap (unsetting v) (slice_empty count t)

  module _ (at : ℕ) (h : at < count) (counted : at + unset_count (earlier v t at count) ≡ length v) where
    -- the first variable from there
    pub earlier-next : earlier v t at count ≡ set (earlier v t (at + 1) count) (get_or t at 0) 2
    unfolding unsetting
    earlier-next =
        let first : slice at count t ≡ get_or t at 0 ∷ slice (at + 1) count t = rw add-one (slice-cons at count t 0 h room) in
        ap (unsetting v) first

    pub counted_next : at + 1 + unset_count (earlier v t (at + 1) count) ≡ length v
    counted_next = omega (arith, all, h, counted, ap unset_count earlier-next, unset-two (earlier v t (at + 1) count) (get_or t at 0), unset-most v (slice (at + 1) count t), length-slice (at + 1) count t room)

    -- is set after it
    pub set_next : value_of (earlier v t (at + 1) count) (get_or t at 0) ≢ 2
    set_next e =
        let u = earlier v t (at + 1) count in
        let same : set u (get_or t at 0) 2 ≡ u = sym (ap (set u (get_or t at 0)) e) ∙ set-get_or u (get_or t at 0) 2 in
        absurd (omega (arith, counted, counted_next, ap unset_count (earlier-next ∙ same)))

    pub value_next : value_of v (get_or t at 0) ≡ value_of (earlier v t (at + 1) count) (get_or t at 0)
    value_next = (earlier-extends v (slice (at + 1) count t)).keeps (get_or t at 0) set_next

  -- as many are set at each later place
  pub counted_on : (k from : ℕ) → from + k ≤ count → from + unset_count (earlier v t from count) ≡ length v → from + k + unset_count (earlier v t (from + k) count) ≡ length v
  counted_on zero from h c = let same : from + 0 ≡ from = omega arith in rw same c
  counted_on (suc k) from h c = let same : from + suc k ≡ from + k + 1 = omega arith in rw same (counted_next (from + k) (omega (arith, h)) (counted_on k from (omega (arith, h)) c))

-- nothing is still to be seen to
pub behind-rested : {ws v t counters : List ℕ} {count : ℕ} → count + unset_count v ≡ length v → count ≤ length t → CountersOf ws v counters → CountersBefore ws v t count count counters
behind-rested {ws} {v} {t} {counters} {count} c h b = let here = earlier-none v t c h in record { tallied = subst (λ (u : List ℕ). CountersOf ws u counters) (sym here) b; counted = rw here c }

pub rested-behind : {ws v t counters : List ℕ} {at count : ℕ} → count + unset_count v ≡ length v → count ≤ length t → at ≡ count → CountersBefore ws v t at count counters → CountersOf ws v counters
rested-behind {ws} {v} {t} {counters} {at} {count} c h e b = subst (λ (u : List ℕ). CountersOf ws u counters) (ap (λ (i : ℕ). earlier v t i count) e ∙ earlier-none v t c h) b.tallied

-- ---- further variables are set

module _ {v t w s : List ℕ} {count more at : ℕ} (g : Grown v t count w s more) (h : at ≤ count) (k : count ≤ length t) where
  pub earlier-grown : earlier w s at more ≡ earlier v t at count
  earlier-grown = ap (unsetting w) (grown_slice g h k) ∙ unsetting-append w (slice at count t) g.new ∙ ap (λ (u : List ℕ). unsetting u (slice at count t)) g.back

  pub behind-grown : {ws counters : List ℕ} → CountersBefore ws v t at count counters → CountersBefore ws w s at more counters
  behind-grown b = record { tallied = rw earlier-grown b.tallied; counted = rw (earlier-grown, grown-length g) b.counted }

-- ---- a guess is made

-- the trail's variable at a place
pub one-there : (t : List ℕ) (at : ℕ) → at < length t → slice at (at + 1) t ≡ get_or t at 0 ∷ []
one-there t at h = slice-cons at (at + 1) t 0 (omega arith) (omega (arith, h)) ∙ rw (← add-one at, slice_empty)

pub behind_guess :
    {ws v counters : List ℕ} (t : List ℕ) (at x k : ℕ) → CountersOf ws v counters → at + unset_count v ≡ length v → value_of v x ≡ 2 → at < length t
    → CountersBefore ws (set v x k) (set t at x) at (at + 1) counters
behind_guess {ws} {v} {counters} t at x k b c e h = record { tallied = subst (λ (u : List ℕ). CountersOf ws u counters) (sym then) b; counted = rw (then, length-set) c }
  where
    then : earlier (set v x k) (set t at x) at (at + 1) ≡ v
    then = ap (unsetting (set v x k)) (one-there (set t at x) at (rw length-set h) ∙ ap (λ (y : ℕ). y ∷ []) (get_or-set_same t at x 0 h)) ∙ unsetting_store v x k e
