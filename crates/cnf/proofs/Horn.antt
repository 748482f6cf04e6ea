-- Clauses with at most one positive literal: no more guesses than variables. Values at rest then satisfy every clause once each unset variable
-- is made false, so only the latest guess is ever undone. Assumes nothing.
use mathlib.Core.Path.{◌≡◌, refl, ap, ◌∙◌, subst}
use mathlib.Core.Logic.{◌⊎◌, inl, inr, ◌≢◌}
use mathlib.Core.Bool.{Bool, true, false}
use mathlib.Core.List.{List, [], ◌∷◌, Memᴰ}
use Prim.Native.Nat.{ℕ, suc, ◌+◌, ◌-◌, ◌*◌, ◌/◌, ◌%◌, ◌≤◌, ◌<◌, zero-le}
use native.Mathlib.Omega.{arith}
use lib.ListN.{length, set, replicate, length-replicate}
use borrow.Author.Tests.{eqb-false}
use Rattle.lists.specs.Lists.{filter}
use Rattle.lists.proofs.Members.{filter-mem, filter-filter}
use Rattle.cnf.specs.Clauses.{value_of, Right, is_positive, Horn}
use Rattle.cnf.specs.Search.{broken, forcing, quiet, is_unset, State, Next, goes, Outcome, solved, none_exists, spent, unfinished, Guess, search_from, made_of}
use Rattle.cnf.specs.Closing.{Formed, Wrong, unset_count, Found, Settled, holds, waits}
use Rattle.cnf.proofs.Values.{set_cases, unset-le, unset_set}
use Rattle.cnf.proofs.Found.{unset_is}
use Rattle.cnf.proofs.Steps.{state_of, StepsTo, fails, undoes, forces, solves, spends, adds_guess, After, run-keeps}
use Rattle.cnf.proofs.Sound.{SoundState, SoundOutcome, sound_kept, start_sound}

-- right once every unset variable is false
pub data RightSoon (v : List ℕ) (l : ℕ) : Type 0 where
  is_true : Right v l → RightSoon v l
  is_unset_lem : value_of v (l / 2) ≡ 2 → l % 2 ≡ 1 → RightSoon v l

-- every clause holds once every unset variable is false
pub record Safe (cs : List (List ℕ)) (v : List ℕ) : Type 0 where
  pub each : (c : List ℕ) → Memᴰ c cs → (l : ℕ) × Memᴰ l c × RightSoon v l

wrong_not : {v : List ℕ} {l : ℕ} → Wrong v l → RightSoon v l → ⊥
wrong_not w (is_true e) = w.is_not e
wrong_not w (is_unset_lem o e) = w.is_set o

safe_unbroken : (cs : List (List ℕ)) (v : List ℕ) → Safe cs v → Found v cs broken → ⊥
safe_unbroken cs v s f = let r = s.each f.0 f.1 in wrong_not (f.2 r.0 r.1) r.2

safe_false : (cs : List (List ℕ)) (v : List ℕ) (x : ℕ) → value_of v x ≡ 2 → Safe cs v → Safe cs (set v x 0)
safe_false cs v x o s = record { each = λ c m. let r = s.each c m in (r.0, r.1, still r.0 r.2 (set_cases v x 0 (r.0 / 2))) }
  where
    still : (l : ℕ) → RightSoon v l → ((l / 2 ≡ x) × (value_of (set v x 0) (l / 2) ≡ 0)) ⊎ (value_of (set v x 0) (l / 2) ≡ value_of v (l / 2)) → RightSoon (set v x 0) l
    still l (is_true e) (inl p) = absurd (omega (arith, ap (value_of v) p.0))
    still l (is_true e) (inr p) = is_true (omega arith)
    still l (is_unset_lem z e) (inl p) = is_true (omega arith)
    still l (is_unset_lem z e) (inr p) = is_unset_lem (p ∙ z) e

safe_forced : (cs : List (List ℕ)) (v : List ℕ) (l : ℕ) → Safe cs v → Found v cs (forcing l) → l % 2 ≡ 1
safe_forced cs v l s f = let r = s.each f.0 f.1 in go r.0 r.2 (f.2.rest r.0 r.1)
  where
    odd_sign : (m : ℕ) → RightSoon v m → value_of v (m / 2) ≡ 2 → m % 2 ≡ 1
    odd_sign m (is_true e) o = absurd (omega arith)
    odd_sign m (is_unset_lem z e) o = e

    go : (m : ℕ) → RightSoon v m → (m ≡ l) ⊎ Wrong v m → l % 2 ≡ 1
    go m h (inl e) = odd_sign l (subst (λ (x : ℕ). RightSoon v x) e h) f.2.free
    go m h (inr w) = absurd (wrong_not w h)

not-positive : (k : ℕ) → is_positive k ≡ false → k % 2 ≡ 1
unfolding is_positive
not-positive k p = omega (arith, eqb-false (k % 2) 0 p)

two-kept : (l m : ℕ) (ls : List ℕ) → is_positive l ≡ true → is_positive m ≡ true → 2 ≤ length (filter is_positive (l ∷ m ∷ ls))
unfolding filter
two-kept l m ls p q = rw (p, q, filter) (omega arith)

pub quiet_safe : (cs : List (List ℕ)) (v : List ℕ) → Horn cs → Found v cs quiet → Safe cs v
quiet_safe cs v horn q = record { each = λ c m. each c m (q c m) }
  where
    each : (c : List ℕ) → Memᴰ c cs → Settled v c → (l : ℕ) × Memᴰ l c × RightSoon v l
    each c mc (holds l m r) = (l, m, is_true r)
    each c mc (waits l m ls e) = go (is_positive l) refl (is_positive m) refl
      where
        go : (s : Bool) → is_positive l ≡ s → (t : Bool) → is_positive m ≡ t → (k : ℕ) × Memᴰ k c × RightSoon v k
        go false p t q = let o = filter-mem (is_unset v) c l (rw e (Memᴰ.head refl)) in (l, o.0, is_unset_lem (unset_is v l o.1) (not-positive l p))
        go true p false q = let o = filter-mem (is_unset v) c m (rw e (Memᴰ.tail (Memᴰ.head refl))) in (m, o.0, is_unset_lem (unset_is v m o.1) (not-positive m q))
        go true p true r = absurd (omega (arith, rw (← e) at (two-kept l m ls p r), filter-filter is_positive (is_unset v) c, horn.one c mc))

-- the values before the latest guess are safe
abbrev SafeBefore : List (List ℕ) → ℕ → List Guess → ℕ → Type 0
SafeBefore cs n [] k = k ≡ 0
SafeBefore cs n (g ∷ gs) k = Safe cs g.values × (k + unset_count g.values ≤ suc n)

record Bounded (cs : List (List ℕ)) (n : ℕ) (s : State) : Type 0 where
  pub sound : SoundState cs n s
  pub room : s.made + unset_count s.values ≤ n
  pub stage : Safe cs s.values ⊎ SafeBefore cs n s.guesses s.made

abbrev Few : ℕ → ℕ → Outcome → Type 0
Few n b (solved v k) = k ≤ n
Few n b (none_exists k) = k ≡ 0
Few n b (spent k) = (k < n) × (k ≡ b)
Few n b unfinished = Unit {0}

few-made : (n b : ℕ) (o : Outcome) → Few n b o → made_of o ≤ n
few-made n b (solved v k) h = h
few-made n b (none_exists k) h = omega arith
few-made n b (spent k) h = omega arith
few-made n b unfinished h = zero-le

module _ (cs : List (List ℕ)) (n b : ℕ) (formed : Formed cs n) (horn : Horn cs) where
  bounded_kept : (s : State) (t : Next) → StepsTo cs b s t → Bounded cs n s → After (SoundState cs n) (SoundOutcome cs n) t → After (Bounded cs n) (Few n b) t
  bounded_kept s t (fails {v = v} {k = k} f) h z = go h.stage
    where
      go : Safe cs v ⊎ (k ≡ 0) → k ≡ 0
      go (inl e) = absurd (safe_unbroken cs v e f)
      go (inr e) = e
  bounded_kept s t (undoes {v = v} {u = u} {x = x} {gs = gs} {k = k} f) h z = go h.stage
    where
      go : Safe cs v ⊎ (Safe cs u × (k + unset_count u ≤ suc n)) → Bounded cs n (state_of (set u x 0) gs k)
      go (inl e) = absurd (safe_unbroken cs v e f)
      go (inr e) =
          let o = h.sound.before.2 in
          record { sound = z; room = omega (arith, unset_set u x 0 (omega (arith, h.sound.before.1, h.sound.before.0.values.long)) o (omega arith)); stage = inl (safe_false cs u x o e.0) }
  bounded_kept s t (forces {v = v} {gs = gs} {k = k} l f) h z = record { sound = z; room = omega (arith, h.room, unset_set v (l / 2) (1 - l % 2) in_range f.2.free (omega arith)); stage = go h.stage }
    where
      in_range : l / 2 < length v
      in_range = omega (arith, formed.below f.0 f.1 l f.2.has, h.sound.now.values.long)

      go : Safe cs v ⊎ SafeBefore cs n gs k → Safe cs (set v (l / 2) (1 - l % 2)) ⊎ SafeBefore cs n gs k
      go (inl e) = inl (rw (safe_forced cs v l e f) (safe_false cs v (l / 2) f.2.free e))
      go (inr e) = inr e
  bounded_kept s t (solves f q) h z = omega (arith, h.room)
  bounded_kept s t (spends {v = v} x q l o e) h z = (omega (arith, h.room, unset_set v x 0 l o (omega arith)), e)
  bounded_kept s t (adds_guess {v = v} {gs = gs} {k = k} x q l o e) h z =
      record { sound = z; room = omega (arith, h.room, unset_set v x 1 l o (omega arith)); stage = inr (quiet_safe cs v horn q, omega (arith, h.room)) }

  few : Few n b (search_from cs n b)
  unfolding search_from
  few =
      run-keeps (Bounded cs n) (Few n b) cs b (λ s t m h. bounded_kept s t m h (sound_kept cs n b formed s t m h.sound)) tt (2 * suc b * suc (suc n)) (goes (state_of (replicate n 2) [] 0))
      (record { sound = start_sound cs n b formed; room = omega (arith, unset-le (replicate n 2), length-replicate {A = ℕ} n 2); stage = inr refl })

  pub horn_few : made_of (search_from cs n b) ≤ n
  horn_few = few-made n b (search_from cs n b) few

  -- so a budget of n is never spent
  pub horn_unspent : n ≤ b → (k : ℕ) → search_from cs n b ≢ spent k
  horn_unspent h k e = let p = rw e at few in omega arith
