-- Laws for a pass that puts down places: every clause passed has a right literal, or its place is put down. Assumes nothing.
use mathlib.Core.Path.{◌≡◌, refl, sym, ap, ◌∙◌, subst}
use mathlib.Core.Logic.{◌⊎◌, inl, inr}
use mathlib.Core.Bool.{true, false, true≢false}
use mathlib.Core.List.Memᴰ
use mathlib.Core.List.Memᴰ.{append_cases}
use mathlib.Core.List.Memᴰ.{eq_of_singleton}
use mathlib.Core.List.Memᴰ.{not-nil}
use mathlib.Core.List.{List, [], ◌∷◌, ◌++◌, Memᴰ}
use Prim.Native.Nat.{ℕ, ◌+◌, ◌/◌, ◌≤◌, ◌<◌}
use native.Mathlib.Numerals.{add-one}
use native.Mathlib.Omega.{arith}
use lib.ListN.{length, get_or, set, take, drop, length-set}
use lib.Seq.{take-suc-set}
use Rattle.lists.specs.Lists.{any}
use Rattle.lists.proofs.Members.{any-true, any_of}
use Rattle.cnf.specs.Clauses.{clauses_in, whole, Right}
use Rattle.cnf.specs.Search.{is_right, broken, forcing, quiet, seen}
use Rattle.cnf.specs.Closing.{◌⊑◌}
use Rattle.cnf.proofs.Found.{right_is, right_of}
use Rattle.sat_literal.specs.Literals.{clause_at}
use Rattle.sat_scan.specs.Scan.{StandsAt, Sifts}
use Rattle.sat_trail.specs.Trail.{Ready}
use Rattle.sat_trail.specs.Rows.{Forced}
use Rattle.sat_literal.proofs.Walking.{end_inside, none_left, clause_in, clause_cases}
use Rattle.sat_literal.proofs.Literals.{right_tells}
use Rattle.sat_scan.proofs.Passing.{Passing, passing, pass_end, pass-broken, pass-quiet, pass-stored}
use Rattle.sat_trail.proofs.Working.{forced_literal}

-- ---- a right literal stays right

right-more : {v w : List ℕ} (l : ℕ) → v ⊑ w → Right v l → Right w l
right-more {v} {w} l p r = let e = p.keeps (l / 2) (omega arith) in omega arith

pub any-more : {v w : List ℕ} (c : List ℕ) → v ⊑ w → any (is_right v) c ≡ true → any (is_right w) c ≡ true
any-more {v} {w} c p e = let r = any-true (is_right v) c e in any_of (is_right w) c r.0 r.1 (right_of w r.0 (right-more r.0 p (right_is v r.0 r.2)))

-- ---- the pass

-- one of two ways, which is told first
pub by_way : {A B C : Type 0} → A ⊎ B → (A → C) → (B → C) → C
by_way (inl a) f g = f a
by_way (inr b) f g = g b

abbrev Kept : List ℕ → List ℕ → List ℕ → Type 0
Kept ws ps c = (p : ℕ) × Memᴰ p ps × (clause_at ws p ≡ c)

-- before the clause at `at`: v₀ and t₀ were the values and the trail where the pass began
pub record Sifting (ws v₀ t₀ : List ℕ) (start : ℕ) (v t room : List ℕ) (count kept at : ℕ) : Type 0 where
  pub passing : Passing ws v₀ t₀ start v t count at
  pub few : kept ≤ at
  pub stand : kept ≤ length room → (p : ℕ) → Memᴰ p (take kept room) → StandsAt ws p
  pub passed : kept ≤ length room → (c : List ℕ) → Memᴰ c (clauses_in ws) → Memᴰ c (clauses_in (drop at ws)) ⊎ ((any (is_right v) c ≡ true) ⊎ Kept ws (take kept room) c)

-- in the clause nothing is put down yet
pub scan_clauses_same :
    {ws v₀ t₀ v t room room' : List ℕ} {start count kept kept' at : ℕ} → Sifting ws v₀ t₀ start v t room count kept at → kept' ≡ kept → room' ≡ room
    → Sifting ws v₀ t₀ start v t room' count kept' at
scan_clauses_same i p q = rw (p, q) i

module _ {ws v₀ t₀ : List ℕ} {start : ℕ} (ready : Ready (clauses_in ws) v₀ t₀ start) where
  pub sifting : (room : List ℕ) → whole ws ≡ true → Sifting ws v₀ t₀ start v₀ t₀ room start 0 0
  sifting room w = record { passing = passing ready w; few = omega arith; stand = λ h p m. absurd (not-nil m); passed = λ h c m. inl m }

  module _ {v t room : List ℕ} {count kept at : ℕ} (i : Sifting ws v₀ t₀ start v t room count kept at) where
    -- all clauses are passed
    pub scan_clauses_end : length ws ≤ at → Sifts ws v₀ t₀ start v t room false count kept
    scan_clauses_end h = record { pass = pass_end ready i.passing h; left = λ _ k. record { places = i.stand k; each = λ c m. go c (i.passed k c m) } }
      where
        go : (c : List ℕ) → Memᴰ c (clauses_in (drop at ws)) ⊎ ((any (is_right v) c ≡ true) ⊎ Kept ws (take kept room) c) → (any (is_right v) c ≡ true) ⊎ Kept ws (take kept room) c
        go c (inl m) = absurd (none_left ws at h c m)
        go c (inr s) = s

    module _ (h : at < length ws) where
      pub scan_clauses_broken : {kept' : ℕ} → broken ≡ seen v (clause_at ws at) → Sifts ws v₀ t₀ start v t room true count kept'
      scan_clauses_broken e = record { pass = pass-broken ready i.passing h e; left = λ b. absurd (true≢false b) }

      -- the clause is passed, and no place is put down
      on :
          {v' t' : List ℕ} {count' : ℕ} → Passing ws v₀ t₀ start v' t' count' (at + 1 + get_or ws at 0) → v ⊑ v' → any (is_right v') (clause_at ws at) ≡ true
          → Sifting ws v₀ t₀ start v' t' room count' kept (at + 1 + get_or ws at 0)
      on {v'} p x e = record { passing = p; few = omega (arith, i.few); stand = i.stand; passed = λ k c m. go k c (i.passed k c m) }
        where
          pick : (k : kept ≤ length room) (c : List ℕ) → (c ≡ clause_at ws at) ⊎ Memᴰ c (clauses_in (drop (at + 1 + get_or ws at 0) ws))
              → Memᴰ c (clauses_in (drop (at + 1 + get_or ws at 0) ws)) ⊎ ((any (is_right v') c ≡ true) ⊎ Kept ws (take kept room) c)
          pick k c (inl q) = inr (inl (ap (any (is_right v')) q ∙ e))
          pick k c (inr m) = inl m

          go : (k : kept ≤ length room) (c : List ℕ) → Memᴰ c (clauses_in (drop at ws)) ⊎ ((any (is_right v) c ≡ true) ⊎ Kept ws (take kept room) c)
              → Memᴰ c (clauses_in (drop (at + 1 + get_or ws at 0) ws)) ⊎ ((any (is_right v') c ≡ true) ⊎ Kept ws (take kept room) c)
          go k c (inl m) = pick k c (clause_cases i.passing.before h c m)
          go k c (inr (inl q)) = inr (inl (any-more c x q))
          go k c (inr (inr q)) = inr (inr q)

      pub scan_clauses_holding : any (is_right v) (clause_at ws at) ≡ true → Sifting ws v₀ t₀ start v t room count kept (at + 1 + get_or ws at 0)
      scan_clauses_holding e =
          let r = any-true (is_right v) (clause_at ws at) e in
          on (pass-quiet ready i.passing h (right_tells v (clause_at ws at) r.0 r.1 r.2)) (record { keeps = λ x k. refl }) e

      pub scan_clauses_forced :
          {l n more : ℕ} {v' t' joined apart : List ℕ} → forcing l ≡ seen v (clause_at ws at) → Forced n v t count l v' t' joined apart more
          → Sifting ws v₀ t₀ start v' t' room more kept (at + 1 + get_or ws at 0)
      scan_clauses_forced {l} {v' = v'} e f =
          let own = forced_literal ready i.passing.worked (clause_in i.passing.before h) e f in
          on (pass-stored ready i.passing h e f) own.extends (any_of (is_right v') (clause_at ws at) l own.has (right_of v' l own.right))

      -- the clause stays: its place is put down where there is room
      module _ (e : quiet ≡ seen v (clause_at ws at)) where
        pub scan_clauses_kept :
            {room' : List ℕ} → length room' ≡ length room → (kept < length room → room' ≡ set room kept at)
            → Sifting ws v₀ t₀ start v t room' count (kept + 1) (at + 1 + get_or ws at 0)
        scan_clauses_kept {room'} q put = record {
          passing = pass-quiet ready i.passing h e;
          few = omega (arith, i.few);
          stand = λ k p m. stands p (append_cases (take kept room) (subst (λ (l : List ℕ). Memᴰ p l) (more k) m)) (omega (arith, q));
          passed = λ k c m. go k c (i.passed (omega (arith, q)) c m);
        }
          where
            more : kept + 1 ≤ length room' → take (kept + 1) room' ≡ take kept room ++ (at ∷ [])
            more k = rw (put (omega (arith, q)), add-one) (take-suc-set room kept at (omega (arith, q)))

            stands : (p : ℕ) → Memᴰ p (take kept room) ⊎ Memᴰ p (at ∷ []) → kept ≤ length room → StandsAt ws p
            stands p (inl m) k = i.stand k p m
            stands p (inr m) k = subst (StandsAt ws) (sym (eq_of_singleton m)) (record { starts = h; ends = end_inside i.passing.before h; clause = clause_in i.passing.before h })

            pick : (k : kept + 1 ≤ length room') (c : List ℕ) → (c ≡ clause_at ws at) ⊎ Memᴰ c (clauses_in (drop (at + 1 + get_or ws at 0) ws))
                → Memᴰ c (clauses_in (drop (at + 1 + get_or ws at 0) ws)) ⊎ ((any (is_right v) c ≡ true) ⊎ Kept ws (take (kept + 1) room') c)
            pick k c (inl p) = inr (inr (at, rw (more k) (Memᴰ.append_right (take kept room) (Memᴰ.head refl)), sym p))
            pick k c (inr m) = inl m

            go : (k : kept + 1 ≤ length room') (c : List ℕ) → Memᴰ c (clauses_in (drop at ws)) ⊎ ((any (is_right v) c ≡ true) ⊎ Kept ws (take kept room) c)
                → Memᴰ c (clauses_in (drop (at + 1 + get_or ws at 0) ws)) ⊎ ((any (is_right v) c ≡ true) ⊎ Kept ws (take (kept + 1) room') c)
            go k c (inl m) = pick k c (clause_cases i.passing.before h c m)
            go k c (inr (inl p)) = inr (inl p)
            go k c (inr (inr p)) = inr (inr (p.0, rw (more k) (Memᴰ.append_left (at ∷ []) p.1), p.2))

        pub scan_clauses_put : {room' : List ℕ} → room' ≡ set room kept at → Sifting ws v₀ t₀ start v t room' count (kept + 1) (at + 1 + get_or ws at 0) × (length room' ≡ length room)
        scan_clauses_put p = let l = ap length p ∙ length-set room kept at in (scan_clauses_kept l (λ _. p), l)
