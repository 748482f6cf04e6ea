-- Laws for unit steps: none, steps after steps, and one that a clause forces, which is made with the words; by clauses that are asked, and what that
-- means for the clauses seen to; by some of the clauses, and by all. Assumes nothing.
use mathlib.Core.Path.{◌≡◌, refl, sym, ap, ◌∙◌, subst}
use mathlib.Core.Logic.{◌⊎◌, inl, inr, ◌≢◌}
use mathlib.Core.Bool.{Bool, true, false, true≢false}
use mathlib.Core.List.Memᴰ
use mathlib.Core.List.Memᴰ.{append_cases}
use mathlib.Core.List.Memᴰ.{eq_of_singleton}
use mathlib.Core.List.Memᴰ.{not-nil}
use mathlib.Core.List.{List, [], ◌∷◌, ◌++◌, Memᴰ}
use Prim.Native.Nat.{ℕ, ◌-◌, ◌/◌, ◌%◌, ◌≤◌, ◌<◌}
use native.Mathlib.Omega.{arith}
use lib.ListN.{length, set}
use lib.Seq.{get_or-set_same}
use Rattle.cnf.specs.Clauses.{value_of, Right}
use Rattle.cnf.specs.Search.{Seen, broken, forcing, quiet, seen}
use Rattle.cnf.specs.Closing.{Formed, ◌⊑◌, Found, stay, more, SettledOr}
use Rattle.cnf.proofs.Values.{set_more, unset_set}
use Rattle.cnf.proofs.Found.{Means, seen_means}
use Rattle.cnf.proofs.Order.{units-more, units-values, units_trans}
use Rattle.cnf.proofs.Closure.{units_break, units-rest}
use Rattle.cnf.proofs.Queue.{settled_or_more, units-part, broken-part}
use Rattle.sat_trail.specs.Trail.{Ready, Grown, Worked, Queue, Drained, Settles}
use Rattle.sat_trail.specs.Rows.{Rows, Settable, Forced}
use Rattle.sat_trail.proofs.Trails.{grown-none, grown_trans, grown-length, grown-same, grown-count, grown_store}

-- ---- steps

module _ {cs : List (List ℕ)} {v t : List ℕ} {start : ℕ} (ready : Ready cs v t start) where
  -- nothing is done yet
  unfoldable pub worked-none : Worked cs v t start v t false start
  unfolding grown-none
  worked-none = record { grown = grown-none ready.counted; units = stay; fresh = λ x m. absurd (not-nil m); breaking = λ e. absurd (true≢false (sym e)) }

  module _ {w s : List ℕ} {count : ℕ} {isBroken : Bool} (p : Worked cs v t start w s isBroken count) where
    pub worked-length : length w ≡ length v
    worked-length = grown-length p.grown

    pub worked-room : length w ≤ length s
    worked-room = omega (arith, ready.room, worked-length, p.grown.long)

    pub worked-extends : v ⊑ w
    worked-extends = units-more cs v w p.units

    -- no fewer are set
    pub worked-count : start ≤ count
    worked-count = grown-count p.grown (omega (arith, ready.room, ready.counted)) worked-room

    -- and on from here
    pub worked_on : Ready cs w s count
    worked_on = record {
      formed = rw worked-length ready.formed;
      values = rw worked-length (units-values cs (length v) v w p.units ready.values);
      counted = p.grown.counted;
      room = worked-room;
    }

    -- what is set stays so
    pub set_on : {x : ℕ} → (x < length v) × (value_of v x ≢ 2) → (x < length w) × (value_of w x ≢ 2)
    set_on {x} b = (rw worked-length b.0, λ z. b.1 (sym (worked-extends.keeps x b.1) ∙ z))

-- one after the other
unfoldable pub worked_trans :
    {cs : List (List ℕ)} {v t w s u r : List ℕ} {start count more : ℕ} {isBroken isBroken' : Bool} → Worked cs v t start w s isBroken count
    → Worked cs w s count u r isBroken' more → Worked cs v t start u r isBroken' more
unfolding grown_trans
worked_trans {cs = cs} {w = w} {u = u} a b = record {
  grown = grown_trans a.grown b.grown;
  units = units_trans a.units b.units;
  fresh = λ x m. new-set x (append_cases a.grown.new m);
  breaking = b.breaking;
}
  where
    new-set : (x : ℕ) → Memᴰ x a.grown.new ⊎ Memᴰ x b.grown.new → value_of u x ≢ 2
    new-set x (inl m) = λ z. a.fresh x m (sym ((units-more cs w u b.units).keeps x (a.fresh x m)) ∙ z)
    new-set x (inr m) = b.fresh x m

-- ---- a clause forces a literal: it can be made true, and that is a step

module _ {cs : List (List ℕ)} {v t : List ℕ} {count l : ℕ} (ready : Ready cs v t count) (f : Found v cs (forcing l)) where
  pub forced_inside : l / 2 < length v
  forced_inside = ready.formed.below f.0 f.1 l f.2.has

  pub forced_room : count < length t
  forced_room = omega (arith, ready.room, ready.counted, unset_set v (l / 2) 0 forced_inside f.2.free (omega arith))

  pub forced_settable : {n : ℕ} {joined apart : List ℕ} → Rows n v joined apart → Settable n v joined apart (l / 2) (1 - l % 2) × (count < length t)
  forced_settable o = (record { rows = o; inside = forced_inside; unset = f.2.free; small = omega arith }, forced_room)

  module _ {n r : ℕ} {w s joined apart : List ℕ} (h : Forced n v t count l w s joined apart r) where
    unfoldable pub forced_grown : Grown v t count w s r
    unfolding grown_store
    forced_grown = let g = grown_store {k = 1 - l % 2} ready.counted ready.room forced_inside f.2.free (omega arith) in record {
      long = rw h.trail g.long;
      new = l / 2 ∷ [];
      grows = rw (h.trail, h.count-more) g.grows;
      back = rw h.assigned.values g.back;
      below = g.below;
      counted = rw (h.assigned.values, h.count-more) g.counted;
    }

    unfoldable pub worked_forced : Worked cs v t count w s false r
    unfolding forced_grown
    worked_forced = record {
      grown = forced_grown;
      units = rw h.assigned.values (more l stay f);
      fresh = λ y m. rw h.assigned.values (set-now y (eq_of_singleton m));
      breaking = λ b. absurd (true≢false (sym b));
    }
      where
        set-now : (y : ℕ) → y ≡ l / 2 → value_of (set v (l / 2) (1 - l % 2)) y ≢ 2
        set-now y z = λ two. absurd (omega (arith, sym (get_or-set_same v (l / 2) (1 - l % 2) 2 forced_inside) ∙ ap (value_of (set v (l / 2) (1 - l % 2))) (sym z) ∙ two))

-- ---- a clause is asked

-- a literal of the clause c became right
pub record ForcedLiteral (v w c : List ℕ) (l : ℕ) : Type 0 where
  pub extends : v ⊑ w
  pub has : Memᴰ l c
  pub right : Right w l

-- more variables were in the queue before
pub settled_or_behind : {w rs c : List ℕ} (qs : List ℕ) → SettledOr w rs c → SettledOr w (qs ++ rs) c
settled_or_behind qs (inl p) = inl p
settled_or_behind qs (inr p) = inr (record { literal = p.literal; has = p.has; queued = Memᴰ.append_right qs p.queued })

means : (v c : List ℕ) {s : Seen} → s ≡ seen v c → Means v c s
means v c e = subst (Means v c) (sym e) (seen_means v c)

pub asked_quiet : (v c qs : List ℕ) → quiet ≡ seen v c → SettledOr v qs c
asked_quiet v c qs e = inl (means v c e)

module _ {cs : List (List ℕ)} {v₀ t₀ v t : List ℕ} {start count : ℕ} (ready : Ready cs v₀ t₀ start) (p : Worked cs v₀ t₀ start v t false count) {c : List ℕ} (m : Memᴰ c cs) where
  pub asked_below : (l : ℕ) → Memᴰ l c → l / 2 < length v
  asked_below = (worked_on ready p).formed.below c m

  -- it is broken
  pub worked-broken : broken ≡ seen v c → Worked cs v₀ t₀ start v t true count
  worked-broken e = record { grown = p.grown; units = p.units; fresh = p.fresh; breaking = λ _. (c, m, means v c e) }

  -- it forces a literal
  module _ {l : ℕ} (e : forcing l ≡ seen v c) where
    forces : Found v cs (forcing l)
    forces = (c, m, means v c e)

    pub can_force : {n : ℕ} {joined apart : List ℕ} → Rows n v joined apart → Settable n v joined apart (l / 2) (1 - l % 2) × (count < length t)
    can_force = forced_settable (worked_on ready p) forces

    module _ {n more : ℕ} {v' t' joined apart : List ℕ} (h : Forced n v t count l v' t' joined apart more) where
      pub worked_store : Worked cs v₀ t₀ start v' t' false more
      worked_store = worked_trans p (worked_forced (worked_on ready p) forces h)

      -- the clauses seen to stay so
      pub store_keeps : {d : List ℕ} → SettledOr v p.grown.new d → SettledOr v' worked_store.grown.new d
      unfolding worked_store worked_trans grown_trans worked_forced forced_grown
      store_keeps s = settled_or_more (l / 2 ∷ []) (grown-same (forced_grown (worked_on ready p) forces h)) s

      -- and the clause itself is one
      pub store_own : SettledOr v' worked_store.grown.new c
      unfolding worked_store worked_trans grown_trans worked_forced forced_grown
      store_own = inr (record { literal = l; has = (means v c e).has; queued = Memᴰ.append_right p.grown.new (Memᴰ.head refl) })

      -- the literal is right now
      pub forced_literal : ForcedLiteral v v' c l
      forced_literal = record {
        extends = rw h.assigned.values (set_more v (l / 2) (1 - l % 2) (means v c e).free);
        has = (means v c e).has;
        right = let now = get_or-set_same v (l / 2) (1 - l % 2) 2 (forced_inside (worked_on ready p) forces) in rw h.assigned.values (omega (arith, now));
      }

-- ---- some of the clauses

module _ (os cs : List (List ℕ)) (part : (c : List ℕ) → Memᴰ c os → Memᴰ c cs) where
  pub formed-part : {n : ℕ} → Formed cs n → Formed os n
  formed-part f = record { below = λ c m. f.below c (part c m) }

  pub ready-part : {v t : List ℕ} {count : ℕ} → Ready cs v t count → Ready os v t count
  ready-part r = record { formed = formed-part r.formed; values = r.values; counted = r.counted; room = r.room }

  pub queue-part : {v t : List ℕ} {from count : ℕ} → Queue cs v t from count → Queue os v t from count
  queue-part q = record { inside = q.inside; queued = q.queued; waiting = λ c m. q.waiting c (part c m) }

  unfoldable pub worked-part : {v t w s : List ℕ} {count more : ℕ} {isBroken : Bool} → Worked os v t count w s isBroken more → Worked cs v t count w s isBroken more
  worked-part {v = v} {w = w} p = record {
    grown = p.grown;
    units = units-part os cs part v w p.units;
    fresh = p.fresh;
    breaking = λ b. broken-part os cs part w (p.breaking b);
  }

-- ---- up to a broken clause, or to rest

pub drained_broken : {cs : List (List ℕ)} {v t w s : List ℕ} {start count : ℕ} {isBroken : Bool} → Worked cs v t start w s isBroken count → isBroken ≡ true → Drained cs v t start w s isBroken count
drained_broken p e = record { worked = p; at_rest = λ f. absurd (true≢false (sym e ∙ f)) }

-- such steps close the values
pub drained_settles :
    {cs : List (List ℕ)} {v t w s : List ℕ} {start count : ℕ} {isBroken : Bool} → Ready cs v t start → Drained cs v t start w s isBroken count
    → Settles cs v t start w s isBroken count
drained_settles {cs} {v} {w = w} {isBroken = true} r d = record { grown = d.worked.grown; values = units-values cs (length v) v w d.worked.units r.values; closes = units_break cs v w d.worked.units (d.worked.breaking refl) }
drained_settles {cs} {v} {w = w} {isBroken = false} r d = record { grown = d.worked.grown; values = units-values cs (length v) v w d.worked.units r.values; closes = units-rest cs (length v) v w r.values d.worked.units (d.at_rest refl) }
