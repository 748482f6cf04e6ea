-- Laws for seeing to clauses that have at most one literal left. Assumes nothing.
use mathlib.Core.Path.{◌≡◌, ◌∙◌}
use mathlib.Core.Bool.{true, false, true≢false}
use mathlib.Core.List.{List, [], Memᴰ}
use Prim.Native.Nat.{ℕ, ◌+◌, ◌-◌, ◌/◌, ◌%◌, ◌≤◌, ◌<◌}
use native.Mathlib.Omega.{arith}
use native.Mathlib.Decide.{ℕ_discrete}
use lib.ListN.{length, get_or}
use Rattle.lists.proofs.Members.{get_d_mem}
use Rattle.cnf.specs.Clauses.{clauses_in}
use Rattle.cnf.specs.Search.{is_right, is_unset, broken, forcing, seen}
use Rattle.cnf.specs.Closing.{◌⊑◌, SettledOr}
use Rattle.cnf.proofs.Values.{⊑_trans}
use Rattle.sat_trail.specs.Trail.{Ready, Worked}
use Rattle.sat_trail.specs.Rows.{Rows, Settable, Forced}
use Rattle.sat_trail.proofs.Working.{worked-none, worked-extends, asked_below, asked_quiet, worked-broken, worked_store, store_keeps, store_own, can_force}
use Rattle.sat_counters.specs.Counters.{numbered, weigh}
use Rattle.sat_counters.proofs.Left.{none_left, one_left, one_right, one-unset, one-false}
use Rattle.sat_units.specs.Units.{UnitsNoted, Heeded}
use Rattle.sat_units.proofs.Places.{mem-place}

-- before the k-th of them: each that was seen to is settled, or one of its variables was set
pub record Hearing (ws counters noted v₀ t₀ : List ℕ) (start : ℕ) (v t : List ℕ) (count k : ℕ) : Type 0 where
  pub ready : Ready (clauses_in ws) v₀ t₀ start
  pub told : UnitsNoted ws v₀ counters noted
  pub worked : Worked (clauses_in ws) v₀ t₀ start v t false count
  pub heard : (j : ℕ) → j < k → SettledOr v worked.grown.new (numbered ws (get_or noted j 0))

pub hearing : {ws counters noted v t : List ℕ} {start : ℕ} → Ready (clauses_in ws) v t start → UnitsNoted ws v counters noted → Hearing ws counters noted v t start v t start 0
hearing r o = record { ready = r; told = o; worked = worked-none r; heard = λ j h. absurd (omega (arith, h)) }

module _ {ws counters noted v₀ t₀ v t : List ℕ} {start count k : ℕ} (p : Hearing ws counters noted v₀ t₀ start v t count k) where
  -- all are
  pub heard_all : length noted ≤ k → Heeded ws noted v₀ t₀ start v t false count
  heard_all h = record { worked = p.worked; settles = λ _ c m. go c (mem-place noted 0 c m) }
    where
      go : (c : ℕ) → (j : ℕ) × (j < length noted) × (get_or noted j 0 ≡ c) → SettledOr v p.worked.grown.new (numbered ws c)
      go c q = rw q.2 at (p.heard q.0 (omega (arith, q.1, h)))

  module _ (h : k < length noted) {c w : ℕ} (is : c ≡ get_or noted k 0) (word : w ≡ get_or counters c 0) where
    in_noted : Memᴰ c noted
    in_noted = rw is (get_d_mem noted k 0 h)

    number : c < length (clauses_in ws)
    number = p.told.numbers c in_noted

    pub word-inside : c < length counters
    word-inside = omega (arith, number, p.told.tallied.room)

    clause-here : Memᴰ (numbered ws c) (clauses_in ws)
    clause-here = get_d_mem (clauses_in ws) c [] number

    weighs : w ≡ weigh p.told.before (numbered ws c)
    weighs = word ∙ p.told.tallied.each c number

    pub light : w < 4096
    light = rw word (p.told.light c in_noted)

    extends : p.told.before ⊑ v
    extends = ⊑_trans p.told.extends (worked-extends p.ready p.worked)

    heeded_broken : broken ≡ seen v (numbered ws c) → Heeded ws noted v₀ t₀ start v t true count
    heeded_broken e = record { worked = worked-broken p.ready p.worked clause-here e; settles = λ b. absurd (true≢false b) }

    -- none is left
    pub hear_none : w < 2048 → Heeded ws noted v₀ t₀ start v t true count
    hear_none low = heeded_broken (none_left extends (numbered ws c) (rw (← weighs) low))

    -- the clause is seen to
    on :
        {v' t' : List ℕ} {count' : ℕ} (q : Worked (clauses_in ws) v₀ t₀ start v' t' false count')
        → ((d : List ℕ) → SettledOr v p.worked.grown.new d → SettledOr v' q.grown.new d) → SettledOr v' q.grown.new (numbered ws c)
        → Hearing ws counters noted v₀ t₀ start v' t' count' (k + 1)
    on {v'} q more s = record { ready = p.ready; told = p.told; worked = q; heard = λ j b. go j b (ℕ_discrete j k) }
      where
        go : (j : ℕ) → j < k + 1 → Dec (j ≡ k) → SettledOr v' q.grown.new (numbered ws (get_or noted j 0))
        go j b (yes e) = rw (e, ← is) s
        go j b (no n) = more (numbered ws (get_or noted j 0)) (p.heard j (omega (arith, b, n)))

    -- one is
    module _ (low : 2048 ≤ w) {m : ℕ} (e : m ≡ w - 2048) where
      from : 2048 ≤ weigh p.told.before (numbered ws c)
      from = rw (← weighs) low

      to : weigh p.told.before (numbered ws c) < 4096
      to = rw (← weighs) light

      rest : m ≡ weigh p.told.before (numbered ws c) - 2048
      rest = rw (← weighs) e

      pub literal-inside : m / 2 < length v
      literal-inside = asked_below p.ready p.worked clause-here m (one_left p.told.before (numbered ws c) from to rest)

      pub hear_right : is_right v m ≡ true → Hearing ws counters noted v₀ t₀ start v t count (k + 1)
      hear_right r = on p.worked (λ d s. s) (asked_quiet v (numbered ws c) p.worked.grown.new (one_right extends (numbered ws c) from to rest r))

      pub hear_false : is_right v m ≡ false → is_unset v m ≡ false → Heeded ws noted v₀ t₀ start v t true count
      hear_false r u = heeded_broken (one-false extends (numbered ws c) from to rest r u)

      module _ (u : is_unset v m ≡ true) where
        forces : forcing m ≡ seen v (numbered ws c)
        forces = one-unset extends (numbered ws c) from to rest u

        pub can_hear : {n : ℕ} {joined apart : List ℕ} → Rows n v joined apart → Settable n v joined apart (m / 2) (1 - m % 2) × (count < length t)
        can_hear = can_force p.ready p.worked clause-here forces

        pub hear_forced : {n more : ℕ} {v' t' joined apart : List ℕ} → Forced n v t count m v' t' joined apart more → Hearing ws counters noted v₀ t₀ start v' t' more (k + 1)
        hear_forced f = on (worked_store p.ready p.worked clause-here forces f) (λ d s. store_keeps p.ready p.worked clause-here forces f s) (store_own p.ready p.worked clause-here forces f)
