-- The search ends within its steps: each step lowers a measure. Assumes nothing.
use mathlib.Core.Path.{◌≡◌}
use mathlib.Core.Logic.{◌≢◌}
use mathlib.Core.List.{List, [], ◌∷◌}
use Prim.Native.Nat.{ℕ, zero, suc, ◌+◌, ◌-◌, ◌*◌, ◌/◌, ◌%◌, ◌<◌}
use native.Mathlib.Omega.{arith}
use lib.ListN.{length, set, replicate, length-replicate}
use Rattle.cnf.specs.Search.{State, Next, goes, ends, Outcome, solved, none_exists, spent, unfinished, step, run, search_from}
use Rattle.cnf.specs.Closing.{Formed, unset_count}
use Rattle.cnf.proofs.Values.{unset-le, unset_set}
use Rattle.cnf.proofs.Steps.{state_of, guess_of, StepsTo, fails, undoes, forces, solves, spends, adds_guess, steps, After}
use Rattle.cnf.proofs.Sound.{SoundState, SoundOutcome, sound_kept, start_sound}

abbrev pub Ended : Outcome → Type 0
Ended (solved v k) = Unit {0}
Ended (none_exists k) = Unit {0}
Ended (spent k) = Unit {0}
Ended unfinished = ⊥

-- with r guesses left: twice those and the guesses that stand, then the unset values
measure : ℕ → ℕ → State → ℕ
measure n r s = (2 * r + length s.guesses) * suc n + unset_count s.values

-- k steps are enough
record Enough (cs : List (List ℕ)) (n b k : ℕ) (s : State) : Type 0 where
  pub sound : SoundState cs n s
  pub rest : ℕ
  pub budget : s.made + rest ≡ b
  pub enough : measure n rest s < k

module _ (cs : List (List ℕ)) (n b : ℕ) (formed : Formed cs n) where
  enough-kept : (k : ℕ) (s : State) (t : Next) → StepsTo cs b s t → Enough cs n b (suc k) s → After (SoundState cs n) (SoundOutcome cs n) t → After (Enough cs n b k) Ended t
  unfolding measure
  enough-kept k s t (fails f) h z = tt
  enough-kept k s t (undoes {v = v} {u = u} {x = x} {gs = gs} f) h z =
      record { sound = z; rest = h.rest; budget = h.budget; enough = omega (arith, unset-le (set u x 0), z.now.values.long, h.enough) }
  enough-kept k s t (forces {v = v} {gs = gs} l f) h z =
      record { sound = z; rest = h.rest; budget = h.budget; enough = omega (arith, h.enough, unset_set v (l / 2) (1 - l % 2) (omega (arith, formed.below f.0 f.1 l f.2.has, h.sound.now.values.long)) f.2.free (omega arith)) }
  enough-kept k s t (solves q f) h z = tt
  enough-kept k s t (spends x q l o e) h z = tt
  enough-kept k s t (adds_guess {v = v} {gs = gs} {k = j} x q l o e) h z = go h.rest h.budget h.enough
    where
      go : (r : ℕ) → j + r ≡ b → measure n r (state_of v gs j) < suc k → Enough cs n b k (state_of (set v x 1) (guess_of v x ∷ gs) (j + 1))
      go zero p m = absurd (e (omega arith))
      go (suc r) p m = record { sound = z; rest = r; budget = omega arith; enough = omega (arith, unset_set v x 1 l o (omega arith)) }

  run_ends : (k : ℕ) (t : Next) → After (Enough cs n b k) Ended t → Ended (run k cs b t)
  unfolding run
  run_ends zero (goes s) h = absurd (omega (arith, h.enough))
  run_ends zero (ends o) h = h
  run_ends (suc k) (goes s) h =
      let t = step cs b s in
      run_ends k t (enough-kept k s t (steps cs b s) h (sound_kept cs n b formed s t (steps cs b s) h.sound))
  run_ends (suc k) (ends o) h = h

  search_ends : Ended (search_from cs n b)
  unfolding search_from measure
  search_ends =
      run_ends (2 * suc b * suc (suc n)) (goes (state_of (replicate n 2) [] 0))
      (record { sound = start_sound cs n b formed; rest = b; budget = omega arith; enough = omega (arith, unset-le (replicate n 2), length-replicate {A = ℕ} n 2) })

  pub never_unfinished : search_from cs n b ≢ unfinished
  never_unfinished e = rw e at search_ends
