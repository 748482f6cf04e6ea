-- Laws for a pass over the clauses. Assumes nothing.
use mathlib.Core.Path.{◌≡◌, sym, subst}
use mathlib.Core.Logic.{◌⊎◌, inl, inr}
use mathlib.Core.Bool.{true, false, true≢false}
use mathlib.Core.List.{List, Memᴰ}
use Prim.Native.Nat.{ℕ, ◌+◌, ◌≤◌, ◌<◌}
use native.Mathlib.Omega.{arith}
use lib.ListN.{length, get_or, drop}
use Rattle.cnf.specs.Clauses.{clauses_in, whole}
use Rattle.cnf.specs.Search.{broken, forcing, quiet, seen}
use Rattle.cnf.specs.Closing.{SettledOr}
use Rattle.sat_trail.specs.Trail.{Ready, Worked, OnePass}
use Rattle.sat_trail.specs.Rows.{Forced}
use Rattle.sat_trail.proofs.Working.{worked-none, asked_quiet, asked_below, worked-broken, worked_store, store_keeps, store_own}
use Rattle.sat_literal.specs.Literals.{clause_at}
use Rattle.sat_literal.proofs.Walking.{Before, before-first, before-next, end_inside, none_left, clause_in, clause_cases}
use Rattle.sat_literal.proofs.Literals.{SeenSoFar, within}

-- before the clause at `at`: v₀ and t₀ were the values and the trail where the pass began
pub record Passing (ws v₀ t₀ : List ℕ) (start : ℕ) (v t : List ℕ) (count at : ℕ) : Type 0 where
  pub before : Before ws at
  pub worked : Worked (clauses_in ws) v₀ t₀ start v t false count
  pub passed : (c : List ℕ) → Memᴰ c (clauses_in ws) → Memᴰ c (clauses_in (drop at ws)) ⊎ SettledOr v worked.grown.new c

module _ {ws v₀ t₀ : List ℕ} {start : ℕ} (ready : Ready (clauses_in ws) v₀ t₀ start) where
  pub passing : whole ws ≡ true → Passing ws v₀ t₀ start v₀ t₀ start 0
  passing w = record { before = before-first w; worked = worked-none ready; passed = λ c m. inl m }

  module _ {v t : List ℕ} {count at : ℕ} (i : Passing ws v₀ t₀ start v t count at) where
    -- all clauses are passed
    pub pass_end : length ws ≤ at → OnePass (clauses_in ws) v₀ t₀ start v t false count
    pass_end h = record { worked = i.worked; waiting = λ _ c m. go c (i.passed c m) }
      where
        go : (c : List ℕ) → Memᴰ c (clauses_in (drop at ws)) ⊎ SettledOr v i.worked.grown.new c → SettledOr v i.worked.grown.new c
        go c (inl m) = absurd (none_left ws at h c m)
        go c (inr s) = s

    module _ (h : at < length ws) where
      -- before the clause's first literal
      pub pass-clause : SeenSoFar ws v (at + 1) (at + 1 + get_or ws at 0) (at + 1) 0 0
      pass-clause = within ws v (at + 1) (at + 1 + get_or ws at 0) (omega arith) (end_inside i.before h) (asked_below ready i.worked (clause_in i.before h))

      pub pass-broken : broken ≡ seen v (clause_at ws at) → OnePass (clauses_in ws) v₀ t₀ start v t true count
      pass-broken e = record { worked = worked-broken ready i.worked (clause_in i.before h) e; waiting = λ b. absurd (true≢false b) }

      -- the clause is seen to
      on :
          {v' t' : List ℕ} {count' : ℕ} (p : Worked (clauses_in ws) v₀ t₀ start v' t' false count')
          → ((c : List ℕ) → SettledOr v i.worked.grown.new c → SettledOr v' p.grown.new c) → SettledOr v' p.grown.new (clause_at ws at)
          → Passing ws v₀ t₀ start v' t' count' (at + 1 + get_or ws at 0)
      on {v'} p k s = record { before = before-next i.before h; worked = p; passed = λ c m. go c (i.passed c m) }
        where
          pick :
              (c : List ℕ) → (c ≡ clause_at ws at) ⊎ Memᴰ c (clauses_in (drop (at + 1 + get_or ws at 0) ws))
              → Memᴰ c (clauses_in (drop (at + 1 + get_or ws at 0) ws)) ⊎ SettledOr v' p.grown.new c
          pick c (inl e) = inr (subst (SettledOr v' p.grown.new) (sym e) s)
          pick c (inr m) = inl m

          go : (c : List ℕ) → Memᴰ c (clauses_in (drop at ws)) ⊎ SettledOr v i.worked.grown.new c → Memᴰ c (clauses_in (drop (at + 1 + get_or ws at 0) ws)) ⊎ SettledOr v' p.grown.new c
          go c (inl m) = pick c (clause_cases i.before h c m)
          go c (inr q) = inr (k c q)

      pub pass-quiet : quiet ≡ seen v (clause_at ws at) → Passing ws v₀ t₀ start v t count (at + 1 + get_or ws at 0)
      pass-quiet e = on i.worked (λ c s. s) (asked_quiet v (clause_at ws at) i.worked.grown.new e)

      pub pass-stored :
          {l n more : ℕ} {v' t' joined apart : List ℕ} → forcing l ≡ seen v (clause_at ws at) → Forced n v t count l v' t' joined apart more
          → Passing ws v₀ t₀ start v' t' more (at + 1 + get_or ws at 0)
      pass-stored e f =
          let m = clause_in i.before h in
          on (worked_store ready i.worked m e f) (λ c s. store_keeps ready i.worked m e f s) (store_own ready i.worked m e f)
