-- What every step of the search keeps: each value that is set is forced by the standing guesses. So what is solved satisfies the clauses and is
-- maximal, and where none exists there is none. Assumes nothing.
use mathlib.Core.Path.{◌≡◌, refl, sym, ◌∙◌, subst}
use mathlib.Core.Logic.{◌⊎◌, inl, inr, ◌≢◌}
use mathlib.Core.List.{List, [], ◌∷◌, Memᴰ}
use Prim.Native.Nat.{ℕ, zero, suc, ◌-◌, ◌*◌, ◌/◌, ◌%◌, ◌<◌}
use native.Mathlib.Omega.{arith}
use lib.ListN.{length, set, replicate}
use lib.Seq.{get_or-set_same, ext_get_or}
use Rattle.lists.proofs.Members.{filter-mem}
use Rattle.cnf.specs.Clauses.{value_of, Right, Model, Maximal}
use Rattle.cnf.specs.Search.{broken, forcing, quiet, is_unset, State, Next, goes, Outcome, solved, none_exists, spent, unfinished, Guess, search_from}
use Rattle.cnf.specs.Closing.{Formed, Values, Wrong, ◌⊑◌, Settled, holds, waits, Found}
use Rattle.cnf.proofs.Values.{wrong_more, right_value, set_more, set_below_lem, set_values, none-set, start-values}
use Rattle.cnf.proofs.Found.{unset_is}
use Rattle.cnf.proofs.Steps.{state_of, guess_of, StepsTo, fails, undoes, forces, solves, spends, adds_guess, After, run-keeps}

-- the guessed variables are true in a
abbrev pub Stand : List Guess → List ℕ → Type 0
Stand [] a = Unit {0}
Stand (g ∷ gs) a = (value_of a g.variable ≡ 1) × Stand gs a

-- every satisfying assignment in which the guesses are true has the values of v
pub record Forced (cs : List (List ℕ)) (n : ℕ) (gs : List Guess) (v : List ℕ) : Type 0 where
  pub agrees : (a : List ℕ) → Model cs n a → Stand gs a → v ⊑ a

-- what is kept of the values, with the guesses that stand
pub record SoundValues (cs : List (List ℕ)) (n : ℕ) (gs : List Guess) (v : List ℕ) : Type 0 where
  pub values : Values n v
  pub stand : Stand gs v
  pub forced : Forced cs n gs v

-- the same of the values before each guess, whose variable was unset
abbrev pub SoundGuesses : List (List ℕ) → ℕ → List Guess → Type 0
SoundGuesses cs n [] = Unit {0}
SoundGuesses cs n (g ∷ gs) = SoundValues cs n gs g.values × (g.variable < n) × (value_of g.values g.variable ≡ 2) × SoundGuesses cs n gs

pub record SoundState (cs : List (List ℕ)) (n : ℕ) (s : State) : Type 0 where
  pub now : SoundValues cs n s.guesses s.values
  pub before : SoundGuesses cs n s.guesses

-- what it says of the outcome
pub record Solves (cs : List (List ℕ)) (n : ℕ) (v : List ℕ) : Type 0 where
  pub model : Model cs n v
  pub maximal : Maximal cs n v

abbrev pub SoundOutcome : List (List ℕ) → ℕ → Outcome → Type 0
SoundOutcome cs n (solved v k) = Solves cs n v
SoundOutcome cs n (none_exists k) = (a : List ℕ) → Model cs n a → ⊥
SoundOutcome cs n (spent k) = Unit {0}
SoundOutcome cs n unfinished = Unit {0}

-- ---- guesses under other values

stand_more : (gs : List Guess) (v w : List ℕ) → v ⊑ w → Stand gs v → Stand gs w
stand_more [] v w p h = tt
stand_more (g ∷ gs) v w p h = (omega (arith, p.keeps g.variable (omega arith)), stand_more gs v w p h.1)

stand_up : (gs : List Guess) (v w : List ℕ) → ((x : ℕ) → value_of v x ≡ 1 → value_of w x ≡ 1) → Stand gs v → Stand gs w
stand_up [] v w p h = tt
stand_up (g ∷ gs) v w p h = (p g.variable h.0, stand_up gs v w p h.1)

-- ---- a satisfying assignment and what is found

model_unbroken : (cs : List (List ℕ)) (n : ℕ) (v a : List ℕ) → v ⊑ a → Model cs n a → Found v cs broken → ⊥
model_unbroken cs n v a p m f =
    let r = m.each f.0 f.1 in
    (wrong_more p (f.2 r.0 r.1)).is_not r.2

model_forced : (cs : List (List ℕ)) (n : ℕ) (v a : List ℕ) (l : ℕ) → v ⊑ a → Model cs n a → Found v cs (forcing l) → Right a l
model_forced cs n v a l p m f = go (m.each f.0 f.1)
  where
    pick : (k : ℕ) → Right a k → (k ≡ l) ⊎ Wrong v k → Right a l
    pick k r (inl e) = subst (λ (x : ℕ). Right a x) e r
    pick k r (inr w) = absurd ((wrong_more p w).is_not r)

    go : (k : ℕ) × Memᴰ k f.0 × Right a k → Right a l
    go r = pick r.0 r.2 (f.2.rest r.0 r.1)

module _ (cs : List (List ℕ)) (n b : ℕ) (formed : Formed cs n) where
  solves_all : (v : List ℕ) (gs : List Guess) → SoundValues cs n gs v → Found v cs quiet → ((j : ℕ) → j < length v → value_of v j ≢ 2) → Solves cs n v
  solves_all v gs h q f = record { model = record { assigns = record { long = h.values.long; bit = bit }; each = λ c m. each c m (q c m) }; maximal = record { only = only } }
    where
      is_set : (i : ℕ) → i < n → value_of v i ≢ 2
      is_set i l = f i (rw h.values.long l)

      bit : (i : ℕ) → i < n → value_of v i < 2
      bit i l = omega (arith, h.values.small i, is_set i l)

      each : (c : List ℕ) → Memᴰ c cs → Settled v c → (l : ℕ) × Memᴰ l c × Right v l
      each c m (holds l k r) = (l, k, r)
      each c m (waits l k ls e) =
          let o = filter-mem (is_unset v) c l (rw e (Memᴰ.head refl)) in
          absurd (is_set (l / 2) (formed.below c m l o.0) (unset_is v l o.1))

      only : (a : List ℕ) → Model cs n a → ((x : ℕ) → value_of v x ≡ 1 → value_of a x ≡ 1) → a ≡ v
      only a m up =
          let p = h.forced.agrees a m (stand_up gs v a up h.stand) in
          ext_get_or 2 a v (m.assigns.long ∙ sym h.values.long) (λ i l. p.keeps i (is_set i (rw m.assigns.long at l)))

  forced_false : (v u : List ℕ) (x : ℕ) (gs : List Guess) → Found v cs broken → x < n → Forced cs n gs u → Forced cs n (guess_of u x ∷ gs) v → Forced cs n gs (set u x 0)
  forced_false v u x gs f l below above = record { agrees = λ a m st. set_below_lem u a x 0 (below.agrees a m st) (go a m st (value_of a x) refl) }
    where
      go : (a : List ℕ) → Model cs n a → Stand gs a → (y : ℕ) → value_of a x ≡ y → value_of a x ≡ 0
      go a m st zero e = e
      go a m st (suc zero) e = absurd (model_unbroken cs n v a (above.agrees a m (e, st)) m f)
      go a m st (suc (suc y)) e = absurd (omega (arith, m.assigns.bit x l))

  pub sound_kept : (s : State) (t : Next) → StepsTo cs b s t → SoundState cs n s → After (SoundState cs n) (SoundOutcome cs n) t
  sound_kept s t (fails {v = v} f) h = λ a m. model_unbroken cs n v a (h.now.forced.agrees a m tt) m f
  sound_kept s t (undoes {v = v} {u = u} {x = x} {gs = gs} f) h =
      let g = h.before.0 in
      record {
        now = record {
          values = set_values n u x 0 (omega arith) g.values;
          stand = stand_more gs u (set u x 0) (set_more u x 0 h.before.2) g.stand;
          forced = forced_false v u x gs f h.before.1 g.forced h.now.forced;
        };
        before = h.before.3;
      }
  sound_kept s t (forces {v = v} {gs = gs} l f) h =
      record {
        now = record {
          values = set_values n v (l / 2) (1 - l % 2) (omega arith) h.now.values;
          stand = stand_more gs v _ (set_more v (l / 2) (1 - l % 2) f.2.free) h.now.stand;
          forced = record { agrees = λ a m st. let p = h.now.forced.agrees a m st in set_below_lem v a (l / 2) (1 - l % 2) p (right_value a l (model_forced cs n v a l p m f)) };
        };
        before = h.before;
      }
  sound_kept s t (solves {v = v} {gs = gs} q f) h = solves_all v gs h.now q f
  sound_kept s t (spends x q l o e) h = tt
  sound_kept s t (adds_guess {v = v} {gs = gs} x q l o e) h =
      record {
        now = record {
          values = set_values n v x 1 (omega arith) h.now.values;
          stand = (get_or-set_same v x 1 2 l, stand_more gs v (set v x 1) (set_more v x 1 o) h.now.stand);
          forced = record { agrees = λ a m st. set_below_lem v a x 1 (h.now.forced.agrees a m st.1) st.0 };
        };
        before = (h.now, rw h.now.values.long at l, o, h.before);
      }

  pub start_sound : SoundState cs n (state_of (replicate n 2) [] 0)
  start_sound = record { now = record { values = start-values n; stand = tt; forced = record { agrees = λ a m st. record { keeps = λ i h. absurd (h (none-set n i)) } } }; before = tt }

  pub search_sound : SoundOutcome cs n (search_from cs n b)
  unfolding search_from
  search_sound = run-keeps (SoundState cs n) (SoundOutcome cs n) cs b sound_kept tt (2 * suc b * suc (suc n)) (goes (state_of (replicate n 2) [] 0)) start_sound
