-- The search and its budget: it makes no more guesses, and where it is not spent, every budget of at least the guesses that it makes gives the same
-- outcome. Assumes nothing.
use mathlib.Core.Path.{◌≡◌, refl, sym, ap, ◌∙◌, subst}
use mathlib.Core.Bool.{Bool, true, false, true≢false}
use mathlib.Core.List.{List, [], ◌∷◌}
use mathlib.Core.Option.{Option, none, some}
use Prim.Native.Nat.{ℕ, suc, ◌+◌, ◌*◌, ◌≤◌}
use native.Mathlib.Omega.{arith}
use lib.ListN.{set}
use lib.Dec.{eqb}
use borrow.Author.Tests.{ne_eqb}
use Rattle.cnf.specs.Search.{lowest_unset, State, Next, goes, ends, Outcome, spent, Guess, undo, decide, search_from, made_of, is_spent}
use Rattle.cnf.specs.Closing.{Formed, Closed, breaks, rests}
use Rattle.cnf.proofs.Steps.{state_of, StepsTo, fails, undoes, forces, solves, spends, adds_guess, After, run-keeps}
use Rattle.cnf.proofs.Closure.{turn_to, LeadsTo, there, turn, at_start, leads_one, leads_search, turns_search}

-- the guesses made so far
abbrev made_by : Next → ℕ
made_by (goes s) = s.made
made_by (ends o) = made_of o

-- whether it is an end by (d)
abbrev ends_spent : Next → Bool
ends_spent (goes s) = false
ends_spent (ends o) = is_spent o

module _ (gs : List Guess) (k : ℕ) where
  -- a turn takes no guess back from the count
  undo-made : (hs : List Guess) → made_by (undo hs k) ≡ k
  unfolding undo
  undo-made [] = refl
  undo-made (h ∷ hs) = refl

  guess_made : (b : ℕ) (w : List ℕ) (x : Option ℕ) → k ≤ made_by (decide b (state_of w gs k) x)
  unfolding decide
  guess_made b w none = omega arith
  guess_made b w (some x) = go (eqb k b)
    where
      go : (t : Bool) → k ≤ made_by (elim t [ true ↦ ends (spent k) | false ↦ goes (record { values = set w x 1; guesses = record { values = w; variable = x } ∷ gs; made = k + 1 }) ])
      go true = omega arith
      go false = omega arith

  turn_made : (b : ℕ) (c : Closed) → k ≤ made_by (turn_to b gs k c)
  unfolding turn_to
  turn_made b breaks = omega (arith, undo-made gs)
  turn_made b (rests w) = guess_made b w (lowest_unset w 0)

  -- a turn that is not spent under b is the same under a, where the guesses made after it are at most a
  guess_same : (a b : ℕ) (w : List ℕ) (x : Option ℕ) → ends_spent (decide b (state_of w gs k) x) ≡ false → made_by (decide b (state_of w gs k) x) ≤ a
      → decide b (state_of w gs k) x ≡ decide a (state_of w gs k) x
  unfolding decide
  guess_same a b w none e l = refl
  guess_same a b w (some x) e l = go (eqb k b) e l
    where
      guessed : Next
      guessed = goes (record { values = set w x 1; guesses = record { values = w; variable = x } ∷ gs; made = k + 1 })

      go : (t : Bool) → ends_spent (elim t [ true ↦ ends (spent k) | false ↦ guessed ]) ≡ false → made_by (elim t [ true ↦ ends (spent k) | false ↦ guessed ]) ≤ a
          → ◌≡◌ {A = Next} (elim t [ true ↦ ends (spent k) | false ↦ guessed ]) (elim (eqb k a) [ true ↦ ends (spent k) | false ↦ guessed ])
      go true e l = absurd (true≢false e)
      go false e l = sym (ap (λ (t : Bool). elim t [ true ↦ ends (spent k) | false ↦ guessed ]) (ne_eqb k a (λ z. omega arith)))

  turn_same : (a b : ℕ) (c : Closed) → ends_spent (turn_to b gs k c) ≡ false → made_by (turn_to b gs k c) ≤ a → turn_to b gs k c ≡ turn_to a gs k c
  unfolding turn_to
  turn_same a b breaks e l = refl
  turn_same a b (rests w) e l = guess_same a b w (lowest_unset w 0) e l

module _ (cs : List (List ℕ)) (n a b : ℕ) where
  -- where the turns lead to an outcome that is not spent, the count only rises to its guesses
  pub record Follows (t : Next) (o : Outcome) : Type 0 where
    pub leads : LeadsTo cs n a t o
    pub most : made_by t ≤ made_of o

  not-spent : (t : Next) (o : Outcome) → LeadsTo cs n b t o → is_spent o ≡ false → ends_spent t ≡ false
  not-spent (goes s) o r e = refl
  not-spent (ends p) o r e = ap is_spent (leads_one cs n b (ends p) p o there r) ∙ e

  follows : (t : Next) (o : Outcome) → LeadsTo cs n b t o → is_spent o ≡ false → made_of o ≤ a → Follows t o
  follows t o there e l = record { leads = there; most = omega arith }
  follows t o (turn {gs = gs} {k = k} c z h r) e l =
      let f = follows (turn_to b gs k c) o r e l in
      let s = turn_same gs k a b c (not-spent (turn_to b gs k c) o r e) (omega (arith, f.most)) in
      record {
        leads = turn c z h (subst (λ (x : Next). LeadsTo cs n a x o) s f.leads);
        most = omega (arith, f.most, turn_made gs k b c);
      }

-- "needs at most": under a budget of at least the guesses that an unspent search makes, the outcome is the same
pub enough : (cs : List (List ℕ)) (n a b : ℕ) → Formed cs n → is_spent (search_from cs n b) ≡ false → made_of (search_from cs n b) ≤ a → search_from cs n b ≡ search_from cs n a
enough cs n a b formed e l = turns_search cs n a formed (search_from cs n b) (follows cs n a b (at_start n) (search_from cs n b) (leads_search cs n b formed) e l).leads

-- ---- no more guesses than the budget

within : (cs : List (List ℕ)) (b : ℕ) (s : State) (t : Next) → StepsTo cs b s t → s.made ≤ b → After (λ s. s.made ≤ b) (λ o. made_of o ≤ b) t
within cs b s t (fails f) h = h
within cs b s t (undoes f) h = h
within cs b s t (forces l f) h = h
within cs b s t (solves q f) h = h
within cs b s t (spends x q l o e) h = h
within cs b s t (adds_guess x q l o e) h = omega arith

pub made-within : (cs : List (List ℕ)) (n b : ℕ) → made_of (search_from cs n b) ≤ b
unfolding search_from
made-within cs n b = run-keeps (λ s. s.made ≤ b) (λ o. made_of o ≤ b) cs b (within cs b) (omega arith) (2 * suc b * suc (suc n)) (at_start n) (omega arith)
