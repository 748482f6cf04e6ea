-- Two automata combined: the product, which moves where both move, and the sum, which is one of them or the other. Assumes nothing.
use Rattle.std.specs.Prelude.{◌≡◌, ◌⊎◌, List, [], ℕ}
use Rattle.vpa.specs.Automata.{Automaton, Configuration, AcceptsBy}

-- "on the empty stack", in any state
pub record EndedOn {S : Type 0} (A : Automaton S) (c : Configuration S) : Type 0 where
  pub state : A.state c.state
  pub closed : c.stack ≡ []

-- the words with a run that ends so
abbrev pub EndsOn : {S : Type 0} → Automaton S → List ℕ → Type 0
EndsOn A = AcceptsBy A (EndedOn A)

-- the states are pairs, of which f gives the first and g the second: "initial and accepting where both are; internals, calls and returns where
-- both move by the symbol, returns over the pair that was pushed; marks are the first's"
unfoldable pub product : {S T U : Type 0} → Automaton S → Automaton T → (U → S) → (U → T) → Automaton U
product A B f g = record {
  state = λ u. A.state (f u) × B.state (g u);
  initial = λ u. A.initial (f u) × B.initial (g u);
  accepting = λ u. A.accepting (f u) × B.accepting (g u);
  mark = λ u k. A.mark (f u) k × B.state (g u);
  internal = λ u a v. A.internal (f u) a (f v) × B.internal (g u) a (g v);
  call = λ u a v. A.call (f u) a (f v) × B.call (g u) a (g v);
  return = λ u a s v. A.return (f u) a (f s) (f v) × B.return (g u) a (g s) (g v);
}

-- an automaton whose states have other names, those that m gives
unfoldable pub renamed : {S U : Type 0} → Automaton S → (S → U) → Automaton U
renamed {S} A m = record {
  state = λ u. (p : S) × (m p ≡ u) × A.state p;
  initial = λ u. (p : S) × (m p ≡ u) × A.initial p;
  accepting = λ u. (p : S) × (m p ≡ u) × A.accepting p;
  mark = λ u k. (p : S) × (m p ≡ u) × A.mark p k;
  internal = λ u a v. (p q : S) × (m p ≡ u) × (m q ≡ v) × A.internal p a q;
  call = λ u a v. (p q : S) × (m p ≡ u) × (m q ≡ v) × A.call p a q;
  return = λ u a x v. (p s q : S) × (m p ≡ u) × (m s ≡ x) × (m q ≡ v) × A.return p a s q;
}

-- what one of two has, over the same states
unfoldable pub either : {U : Type 0} → Automaton U → Automaton U → Automaton U
either M N = record {
  state = λ u. M.state u ⊎ N.state u;
  initial = λ u. M.initial u ⊎ N.initial u;
  accepting = λ u. M.accepting u ⊎ N.accepting u;
  mark = λ u k. M.mark u k ⊎ N.mark u k;
  internal = λ u a v. M.internal u a v ⊎ N.internal u a v;
  call = λ u a v. M.call u a v ⊎ N.call u a v;
  return = λ u a s v. M.return u a s v ⊎ N.return u a s v;
}

-- the first's states under the names that l gives, the second's under those that r gives, "each with its byte and its records"
abbrev pub sum : {S T U : Type 0} → Automaton S → Automaton T → (S → U) → (T → U) → Automaton U
sum A B l r = either (renamed A l) (renamed B r)
