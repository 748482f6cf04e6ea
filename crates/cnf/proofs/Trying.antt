-- The search with its trials: the outcome is the search's, and any closure gives the same trials. Assumes nothing.
use mathlib.Core.Path.{◌≡◌, refl, sym, subst}
use mathlib.Core.Logic.{◌≢◌}
use mathlib.Core.List.{List, []}
use Prim.Native.Nat.{ℕ, zero, suc, ◌*◌, ◌-◌, ◌/◌, ◌%◌}
use lib.ListN.{set, replicate}
use Rattle.cnf.specs.Search.{Seen, broken, forcing, quiet, scan, lowest_unset, Next, goes, ends, Outcome, unfinished, Guess, undo, decide, act, step, run, search_from}
use Rattle.cnf.specs.Trials.{Trials, rested, tried, Tried, run_tried, untried, search_tried}
use Rattle.cnf.specs.Closing.{Formed, Values, Found, UnitSteps, stay, more, Closed, breaks, rests, Closes}
use Rattle.cnf.proofs.Found.{scan-found}
use Rattle.cnf.proofs.Steps.{state_of, steps, After}
use Rattle.cnf.proofs.Sound.{SoundState, SoundOutcome, sound_kept, start_sound}
use Rattle.cnf.proofs.Ends.{never_unfinished}
use Rattle.cnf.proofs.Closure.{closes-one, units_break, units-rest, turn_to, at_start}

-- ---- the outcome

run-outcome : (k : ℕ) (cs : List (List ℕ)) (b : ℕ) (n : Next) (t : Trials) → (run_tried k cs b n t).outcome ≡ run k cs b n
unfolding run_tried run
run-outcome zero cs b (goes s) t = refl
run-outcome zero cs b (ends o) t = refl
run-outcome (suc k) cs b (goes s) t = run-outcome k cs b (step cs b s) _
run-outcome (suc k) cs b (ends o) t = refl

-- the trials change nothing
pub tried-outcome : (cs : List (List ℕ)) (n b : ℕ) → (search_tried cs n b).outcome ≡ search_from cs n b
unfolding search_tried search_from
tried-outcome cs n b = run-outcome (2 * suc b * suc (suc n)) cs b (at_start n) (untried n)

-- ---- turns

-- what a closure adds to the trials
abbrev pub closed_trials : List (List ℕ) → Closed → Trials → Trials
closed_trials cs breaks t = t
closed_trials cs (rests w) t = rested cs w t

abbrev pub end_of : Outcome → Trials → Tried
end_of o t = record { outcome = o; trials = t }

-- turns lead from here, with these trials, to the end
pub data TriesTo (cs : List (List ℕ)) (n b : ℕ) : Next → Trials → Tried → Type 0 where
  there : {o : Outcome} {t : Trials} → TriesTo cs n b (ends o) t (end_of o t)
  turn :
      {v : List ℕ} {gs : List Guess} {k : ℕ} {t : Trials} {e : Tried} (c : Closed) → Values n v → Closes cs v c
      → TriesTo cs n b (turn_to b gs k c) (closed_trials cs c t) e → TriesTo cs n b (goes (state_of v gs k)) t e

-- to one end only
pub tries_one : (cs : List (List ℕ)) (n b : ℕ) (x : Next) (t : Trials) (d e : Tried) → TriesTo cs n b x t d → TriesTo cs n b x t e → d ≡ e
tries_one cs n b x t d e there there = refl
tries_one cs n b x t d e (turn {gs = gs} {k = k} c z h r) (turn f y i s) =
    tries_one cs n b (turn_to b gs k c) (closed_trials cs c t) d e r (subst (λ (x : Closed). TriesTo cs n b (turn_to b gs k x) (closed_trials cs x t) e) (closes-one cs _ f c i h) s)

-- ---- the search step by step, read as turns

module _ (cs : List (List ℕ)) (n b : ℕ) (formed : Formed cs n) where
  abbrev Good : Next → Type 0
  Good = After (SoundState cs n) (SoundOutcome cs n)

  -- with k steps left: from v, where unit steps have come to u
  Tries : ℕ → Type 0
  Tries k = (v u : List ℕ) (gs : List Guess) (m : ℕ) (t : Trials) → Values n v → UnitSteps cs v u → SoundState cs n (state_of u gs m)
      → run k cs b (goes (state_of u gs m)) ≢ unfinished → TriesTo cs n b (goes (state_of v gs m)) t (run_tried k cs b (goes (state_of u gs m)) t)

  after_turn : (k : ℕ) → Tries k → (x : Next) (t : Trials) → Good x → run k cs b x ≢ unfinished → TriesTo cs n b x t (run_tried k cs b x t)
  unfolding Tries run_tried
  after_turn k ih (goes s) t g h = ih s.values s.values s.guesses s.made t g.now.values stay g h
  after_turn k ih (ends o) t g h = subst (λ (p : Tried). TriesTo cs n b (ends o) t p) (sym (run_ends k)) there
    where
      run_ends : (k : ℕ) → run_tried k cs b (ends o) t ≡ end_of o t
      run_ends zero = refl
      run_ends (suc j) = refl

  tries : (k : ℕ) → Tries k
  unfolding Tries run_tried run step act turn_to tried
  tries zero = λ v u gs m t z s g h. absurd (h refl)
  tries (suc k) = λ v u gs m t z s g h.
      go v u gs m t z s (scan u cs) (scan-found u cs) (sound_kept cs n b formed (state_of u gs m) (step cs b (state_of u gs m)) (steps cs b (state_of u gs m)) g) h (tries k)
    where
      go : (v u : List ℕ) (gs : List Guess) (m : ℕ) (t : Trials) → Values n v → UnitSteps cs v u → (x : Seen) → Found u cs x → Good (act b (state_of u gs m) x)
          → run k cs b (act b (state_of u gs m) x) ≢ unfinished → Tries k → TriesTo cs n b (goes (state_of v gs m)) t (run_tried k cs b (act b (state_of u gs m) x) (tried cs u x t))
      go v u gs m t z s broken f g h ih = turn breaks z (units_break cs v u s f) (after_turn k ih (undo gs m) t g h)
      go v u gs m t z s (forcing l) f g h ih = ih v (set u (l / 2) (1 - l % 2)) gs m t z (more l s f) g h
      go v u gs m t z s quiet f g h ih = turn (rests u) z (units-rest cs n v u z s f) (after_turn k ih (decide b (state_of u gs m) (lowest_unset u 0)) (rested cs u t) g h)

  pub tries_search : TriesTo cs n b (at_start n) (untried n) (search_tried cs n b)
  unfolding search_tried search_from Tries
  tries_search =
      let z = start_sound cs n b formed in
      tries (2 * suc b * suc (suc n)) (replicate n 2) (replicate n 2) [] 0 (untried n) z.now.values stay z (never_unfinished cs n b formed)

  -- whatever closes, the end is the search's
  pub turns_tried : (e : Tried) → TriesTo cs n b (at_start n) (untried n) e → e ≡ search_tried cs n b
  turns_tried e l = tries_one cs n b (at_start n) (untried n) e (search_tried cs n b) l tries_search
