-- The search with its trials (request (viii)): at every rest the variables true so far, with all others false, are tried, and the best trial is
-- held. The search itself is that of specs/Search. Assumes nothing.
use Rattle.std.specs.Prelude.{Bool, true, false, ◌&&◌, not, List, [], map, ℕ, zero, suc, ◌*◌, length, replicate, eqb, ltb}
use Rattle.std.proofs.Math.Option.{Option, none, some}
use Rattle.lists.specs.Lists.{any, all, filter}
use Rattle.cnf.specs.Search.{is_right, Seen, broken, forcing, quiet, scan, Outcome, unfinished, Next, goes, ends, step}

-- "the pairs true so far, with all others false"
unfoldable pub only_true : List ℕ → List ℕ
only_true v = map (λ y. elim (eqb y 1) as (λ _. ℕ) [ true ↦ 1 | false ↦ 0 ]) v

-- "tried against that list": each clause has a literal that is right
unfoldable pub satisfied : List (List ℕ) → List ℕ → Bool
satisfied cs a = all (λ c. any (is_right a) c) cs

-- how many variables are true
unfoldable pub true_count : List ℕ → ℕ
true_count a = length (filter (eqb 1) a)

-- how many are not false
unfoldable pub not_false : List ℕ → ℕ
not_false v = length (filter (λ y. not (eqb y 0)) v)

-- the trial that is held, and the ceiling, once there is one
pub record Trials : Type 0 where
  pub held : List ℕ
  pub ceiling : Option ℕ

-- "The satisfying trial with the most pairs is held, the first among equals": the trial a against the held one
unfoldable pub better : List (List ℕ) → List ℕ → List ℕ → List ℕ
better cs a held = elim (satisfied cs a && ltb (true_count held) (true_count a)) [ true ↦ a | false ↦ held ]

-- "a ceiling U, the variables not false when the first guess is due, or at the end where none is": at the first rest
unfoldable pub ceiling_by : List ℕ → Option ℕ → Option ℕ
ceiling_by v none = some (not_false v)
ceiling_by v (some u) = some u

-- the ceiling as a number, 0 where there was no rest (no assignment exists then: proofs/Trials)
abbrev pub ceiling_of : Option ℕ → ℕ
ceiling_of none = 0
ceiling_of (some u) = u

-- the values v are at rest
unfoldable pub rested : List (List ℕ) → List ℕ → Trials → Trials
rested cs v t = record { held = better cs (only_true v) t.held; ceiling = ceiling_by v t.ceiling }

-- "Whenever the search has no false and no forcing clause"
unfoldable pub tried : List (List ℕ) → List ℕ → Seen → Trials → Trials
tried cs v broken t = t
tried cs v (forcing l) t = t
tried cs v quiet t = rested cs v t

-- how the search ends, and what it has tried
pub record Tried : Type 0 where
  pub outcome : Outcome
  pub trials : Trials

-- at most k steps
unfoldable pub run_tried : ℕ → List (List ℕ) → ℕ → Next → Trials → Tried
run_tried zero cs b (goes s) t = record { outcome = unfinished; trials = t }
run_tried zero cs b (ends o) t = record { outcome = o; trials = t }
run_tried (suc k) cs b (goes s) t = run_tried k cs b (step cs b s) (tried cs s.values (scan s.values cs) t)
run_tried (suc k) cs b (ends o) t = record { outcome = o; trials = t }

-- "beginning with no pairs joined"
abbrev pub untried : ℕ → Trials
untried n = record { held = replicate n 0; ceiling = none }

-- the steps of `search_from`, with their trials
unfoldable pub search_tried : List (List ℕ) → ℕ → ℕ → Tried
search_tried cs n b = run_tried (2 * suc b * suc (suc n)) cs b (goes (record { values = replicate n 2; guesses = []; made = 0 })) (untried n)
