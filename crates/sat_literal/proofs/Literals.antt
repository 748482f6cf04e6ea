-- Laws for asking a clause: what is seen of it is what is seen of the literals still to come, with the unset literal met so far. Assumes nothing.
use mathlib.Core.Path.{◌≡◌, refl, sym, ◌∙◌}
use mathlib.Core.Bool.{Bool, true, false, ◌||◌}
use mathlib.Core.List.{List, [], ◌∷◌, ◌++◌, append-nil, Memᴰ}
use Prim.Native.Nat.{ℕ, zero, suc, ◌+◌, ◌-◌, ◌/◌, ◌≤◌, ◌<◌}
use native.Mathlib.Numerals.{add-one}
use native.Mathlib.Omega.{arith}
use lib.ListN.{length, get_or, take, drop}
use lib.Seq.{slice, slice_empty, slice-cons, length-slice, get_or-take, get_or-drop}
use Rattle.lists.specs.Lists.{any, filter}
use Rattle.lists.proofs.Members.{any_of, get_d_mem}
use Rattle.cnf.specs.Search.{is_right, is_unset, Seen, broken, forcing, quiet, by_unset, seen}
use Rattle.cnf.proofs.Found.{right_is, unset_is}
use Rattle.sat_literal.specs.Literals.{clause_at, Over}
use Rattle.sat_literal.proofs.Walking.{clause-words}

-- what is seen of a clause, by whether a literal is right and by the unset ones
abbrev pub seen_by : Bool → List ℕ → Seen
seen_by true ks = quiet
seen_by false ks = by_unset ks

-- with no right literal and the unset literals ks so far, and c still to come
abbrev seen_from : List ℕ → List ℕ → List ℕ → Seen
seen_from v ks c = seen_by (any (is_right v) c) (ks ++ filter (is_unset v) c)

-- the unset literals of a clause so far: none, or one
abbrev one_of : ℕ → ℕ → List ℕ
one_of zero l = []
one_of (suc n) l = l ∷ []

by_none : (k l : ℕ) → k ≡ 0 → by_unset (one_of k l) ≡ broken
unfolding by_unset
by_none k l e = rw e

by_last : (k l : ℕ) → (k ≡ 0 → ⊥) → by_unset (one_of k l) ≡ forcing l
unfolding by_unset
by_last zero l n = absurd (n refl)
by_last (suc k) l n = refl

pub unset-not-right : (v : List ℕ) (l : ℕ) → is_unset v l ≡ true → is_right v l ≡ false
unset-not-right v l u = go (is_right v l) refl
  where
    go : (t : Bool) → is_right v l ≡ t → is_right v l ≡ false
    go true e = absurd (omega (arith, right_is v l e, unset_is v l u))
    go false e = e

any-cons : (v : List ℕ) (l : ℕ) (c : List ℕ) → any (is_right v) (l ∷ c) ≡ (is_right v l || any (is_right v) c)
any-cons v l c = refl

pub filter-cons : (v : List ℕ) (l : ℕ) (c : List ℕ) → is_unset v l ≡ true → filter (is_unset v) (l ∷ c) ≡ l ∷ filter (is_unset v) c
unfolding filter
filter-cons v l c e = rw (e, filter)

filter-past : (v : List ℕ) (l : ℕ) (c : List ℕ) → is_unset v l ≡ false → filter (is_unset v) (l ∷ c) ≡ filter (is_unset v) c
unfolding filter
filter-past v l c e = rw (e, filter)

pub seen_by_lem : (v c : List ℕ) {t : Bool} {ks : List ℕ} → any (is_right v) c ≡ t → filter (is_unset v) c ≡ ks → seen v c ≡ seen_by t ks
unfolding seen
seen_by_lem v c p q = go (any (is_right v) c) ∙ λ i. seen_by (p i) (q i)
  where
    go : (t : Bool) → elim t as (λ _. Seen) [ true ↦ quiet | false ↦ by_unset (filter (is_unset v) c) ] ≡ seen_by t (filter (is_unset v) c)
    go true = refl
    go false = refl

module _ (v : List ℕ) where
  from-unset : (l : ℕ) (c : List ℕ) → is_unset v l ≡ true → seen_from v [] (l ∷ c) ≡ seen_from v (l ∷ []) c
  from-unset l c e = rw (any-cons, unset-not-right v l e, filter-cons v l c e)

  from_second : (k l : ℕ) (c : List ℕ) → is_unset v l ≡ true → seen_from v (k ∷ []) (l ∷ c) ≡ quiet
  unfolding by_unset
  from_second k l c e = rw (any-cons, unset-not-right v l e, filter-cons v l c e) (go (any (is_right v) c))
    where
      go : (t : Bool) → seen_by t (k ∷ l ∷ filter (is_unset v) c) ≡ quiet
      go true = refl
      go false = refl

  from_wrong : (ks : List ℕ) (l : ℕ) (c : List ℕ) → is_unset v l ≡ false → is_right v l ≡ false → seen_from v ks (l ∷ c) ≡ seen_from v ks c
  from_wrong ks l c u r = rw (any-cons, r, filter-past v l c u)

  from_end : (ks : List ℕ) → seen_from v ks [] ≡ by_unset ks
  unfolding filter
  from_end ks = rw append-nil

-- ---- the literals of a clause

-- in the clause from `first` to `end`, before the literal at `at`: `unset` literals passed were unset, and `last` was the last of them
pub record SeenSoFar (ws v : List ℕ) (first end at unset last : ℕ) : Type 0 where
  pub started : first ≤ at
  pub inside : at ≤ end
  pub ends : end ≤ length ws
  pub few : unset ≤ 1
  pub below : Over (slice at end ws) (length v)
  pub meets : seen v (slice first end ws) ≡ seen_from v (one_of unset last) (slice at end ws)

pub within : (ws v : List ℕ) (first end : ℕ) → first ≤ end → end ≤ length ws → Over (slice first end ws) (length v) → SeenSoFar ws v first end first 0 0
within ws v first end h k o = record { started = omega arith; inside = h; ends = k; few = omega arith; below = o; meets = seen_by_lem v (slice first end ws) refl refl }

-- a clause holds by the literal at a place
pub holds_at : (c v : List ℕ) (i : ℕ) → i < length c → is_right v (get_or c i 0) ≡ true → any (is_right v) c ≡ true
holds_at c v i h e = any_of (is_right v) c (get_or c i 0) (get_d_mem c i 0 h) e

module _ {ws v : List ℕ} {first end at unset last : ℕ} (w : SeenSoFar ws v first end at unset last) where
  -- all literals are passed
  all-passed : at ≡ end → seen v (slice first end ws) ≡ by_unset (one_of unset last)
  all-passed e = w.meets ∙ rw (e, slice_empty) (from_end v (one_of unset last))

  pub sees_broken : at ≡ end → unset ≡ 0 → broken ≡ seen v (slice first end ws)
  sees_broken e z = sym (all-passed e ∙ by_none unset last z)

  pub sees_forcing : at ≡ end → (unset ≡ 0 → ⊥) → forcing last ≡ seen v (slice first end ws)
  sees_forcing e n = sym (all-passed e ∙ by_last unset last n)

  module _ (h : at ≡ end → ⊥) where
    cons-at : slice at end ws ≡ get_or ws at 0 ∷ slice (at + 1) end ws
    cons-at = rw add-one (slice-cons at end ws 0 (omega (arith, w.inside)) w.ends)

    pub next-below : get_or ws at 0 / 2 < length v
    next-below = w.below (get_or ws at 0) (rw cons-at (Memᴰ.head refl))

    rest_below : Over (slice (at + 1) end ws) (length v)
    rest_below l m = w.below l (rw cons-at (Memᴰ.tail m))

    -- it is right
    pub holds_by : is_right v (get_or ws at 0) ≡ true → any (is_right v) (slice first end ws) ≡ true
    holds_by e =
        let place : first + (at - first) ≡ at = omega (arith, w.started) in
        let here : get_or (slice first end ws) (at - first) 0 ≡ get_or ws at 0 = get_or-drop first (take end ws) (at - first) 0 ∙ rw place (get_or-take end ws at 0 (omega (arith, w.inside))) in
        holds_at (slice first end ws) v (at - first) (omega (arith, length-slice first end ws w.ends, w.started, w.inside)) (rw here e)

    pub sees_second : unset ≡ 1 → is_unset v (get_or ws at 0) ≡ true → quiet ≡ seen v (slice first end ws)
    sees_second u e = sym (w.meets ∙ rw (cons-at, u, from_second v last (get_or ws at 0) (slice (at + 1) end ws) e))

    pub step-unset : (unset ≡ 1 → ⊥) → is_unset v (get_or ws at 0) ≡ true → SeenSoFar ws v first end (at + 1) 1 (get_or ws at 0)
    step-unset u e =
        let none : unset ≡ 0 = omega (arith, w.few) in
        record {
          started = omega (arith, w.started);
          inside = omega (arith, w.inside);
          ends = w.ends;
          few = omega arith;
          below = rest_below;
          meets = w.meets ∙ rw (cons-at, none, from-unset v (get_or ws at 0) (slice (at + 1) end ws) e);
        }

    pub step_wrong : is_right v (get_or ws at 0) ≡ false → is_unset v (get_or ws at 0) ≡ false → SeenSoFar ws v first end (at + 1) unset last
    step_wrong r u =
        record {
          started = omega (arith, w.started);
          inside = omega (arith, w.inside);
          ends = w.ends;
          few = w.few;
          below = rest_below;
          meets = w.meets ∙ rw (cons-at, from_wrong v (one_of unset last) (get_or ws at 0) (slice (at + 1) end ws) u r);
        }

-- where none was unset, it does not matter which was the last
pub last-any : {ws v : List ℕ} {first end at last : ℕ} (other : ℕ) → SeenSoFar ws v first end at 0 last → SeenSoFar ws v first end at 0 other
last-any other w = record { started = w.started; inside = w.inside; ends = w.ends; few = w.few; below = w.below; meets = w.meets }

-- ---- a literal that tells

pub right_tells : (v c : List ℕ) (l : ℕ) → Memᴰ l c → is_right v l ≡ true → quiet ≡ seen v c
right_tells v c l m e = sym (seen_by_lem v c (any_of (is_right v) c l m e) refl)

-- ---- a clause of a list is asked

-- the words that are lent, k of them from after `at`, are the clause at `at`
module _ (ws : List ℕ) (at : ℕ) {k : ℕ} (e : k ≡ get_or ws at 0) where
  pub lent-over : (n : ℕ) → Over (clause_at ws at) n → Over (take (at + 1 + k - (at + 1)) (drop (at + 1) ws)) n
  lent-over n h = rw (clause-words ws at e) h
