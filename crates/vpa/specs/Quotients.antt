-- Source 000, Sect. 2.1 and 3: the quotient, closure under successors and Definition 1, in the paper's own form; runs compared at every step
-- (document 02, (xii)); marks (document 02, (v)). Assumes nothing.
use Rattle.std.specs.Prelude.{◌≡◌, ◌↔◌, List, [], ◌∷◌, map, ℕ}
use Rattle.std.proofs.Math.Option.{some}
use Rattle.vpa.specs.Automata.{Automaton, Configuration, ◌at◌, Step, Run, done, then, Tops}

-- "R is closed under .. successors": p moves by f and q by g. For each move of one there is a move of the other by the same symbol, to related states
pub record Closed {S : Type 0} (R : S → S → Type 0) (f g : ℕ → S → Type 0) : Type 0 where
  pub forth : {a : ℕ} {p' : S} → f a p' → (q' : S) × g a q' × R p' q'
  pub back : {a : ℕ} {q' : S} → g a q' → (p' : S) × f a p' × R p' q'

module _ {S : Type 0} (A : Automaton S) where
  -- an equivalence relation over the states
  pub record Equivalence (R : S → S → Type 0) : Type 0 where
    pub within : {p q : S} → R p q → A.state p × A.state q
    pub reflexive : {p : S} → A.state p → R p p
    pub symmetric : {p q : S} → R p q → R q p
    pub transitive : {p q s : S} → R p q → R q s → R p s

  -- condition (iv) for (p, q) and the stack symbols (p̂, q̂): its three alternatives, in the paper's order
  pub data ReturnsAgree (R : S → S → Type 0) (p q p̂ q̂ : S) : Type 0 where
    closed : Closed R (λ r. A.return p r p̂) (λ r. A.return q r q̂) → ReturnsAgree R p q p̂ q̂
    second_unreachable : ¬ Tops A q (some q̂) → ReturnsAgree R p q p̂ q̂
    first_unreachable : ¬ Tops A p (some p̂) → ReturnsAgree R p q p̂ q̂

  -- Definition 1: a reachability-aware quotienting relation; by request (v) its condition (i) is that joined states agree on accepting and on mark
  pub record Raq (R : S → S → Type 0) : Type 0 where
    pub equivalence : Equivalence R
    pub accepting : {p q : S} → R p q → A.accepting p ↔ A.accepting q
    pub marks : {p q : S} {k : ℕ} → R p q → A.mark p k ↔ A.mark q k
    pub internals : {p q : S} → R p q → Closed R (A.internal p) (A.internal q)
    pub calls : {p q : S} → R p q → Closed R (A.call p) (A.call q)
    pub returns : {p q p̂ q̂ : S} → R p q → R p̂ q̂ → ReturnsAgree R p q p̂ q̂

module _ {S T : Type 0} (A : Automaton S) (m : S → T) where
  -- "The map joins two states where their class numbers are equal."
  pub record Joined (p q : S) : Type 0 where
    pub left : A.state p
    pub right : A.state q
    pub classes : m p ≡ m q

  -- the quotient under a map of the states to classes, "without the input's dead returns": "Its records are the images of internals, calls
  -- and live returns", a class is "initial or accepting if a member is", and has "the members' mark"
  unfoldable pub quotient : Automaton T
  quotient = record {
    state = λ P. (p : S) × (m p ≡ P) × A.state p;
    initial = λ P. (p : S) × (m p ≡ P) × A.initial p;
    accepting = λ P. (p : S) × (m p ≡ P) × A.accepting p;
    mark = λ P k. (p : S) × (m p ≡ P) × A.mark p k;
    internal = λ P a Q. (p q : S) × (m p ≡ P) × (m q ≡ Q) × A.internal p a q;
    call = λ P a Q. (p q : S) × (m p ≡ P) × (m q ≡ Q) × A.call p a q;
    return = λ P a U Q. (p s q : S) × (m p ≡ P) × (m s ≡ U) × (m q ≡ Q) × A.return p a s q × Tops A p (some s);
  }

  -- source 000, Lemma 1: a configuration of the input and one of the quotient, state and whole stack
  pub record Corresponds (c : Configuration S) (C : Configuration T) : Type 0 where
    pub states : m c.state ≡ C.state
    pub stacks : map m c.stack ≡ C.stack

module _ {S T : Type 0} {A : Automaton S} {B : Automaton T} (R : Configuration S → Configuration T → Type 0) where
  -- two runs over one word, from c to d and from C to D, with R before its first symbol and after each: one case a step
  pub data StepByStep : (c d : Configuration S) (C D : Configuration T) (w : List ℕ) → Run A c w d → Run B C w D → Type 0 where
    at_end : {c : Configuration S} {C : Configuration T} → R c C → StepByStep c c C C [] done done
    at-step : {c d e : Configuration S} {C D E : Configuration T} {a : ℕ} {w : List ℕ} {s : Step A c a d} {t : Step B C a D} {r : Run A d w e} {u : Run B D w E}
        → R c C → StepByStep d e D E w r u → StepByStep c e C E (a ∷ w) (then s r) (then t u)

  -- the same of two runs, which say their ends and their word
  abbrev pub AtEveryStep : {c d : Configuration S} {C D : Configuration T} {w : List ℕ} → Run A c w d → Run B C w D → Type 0
  AtEveryStep {c} {d} {C} {D} {w} r u = StepByStep c d C D w r u

-- request (xii), of an input A and a quotient B under the map m: over every word, from their starts
pub record EveryStep {S T : Type 0} (A : Automaton S) (B : Automaton T) (m : S → T) : Type 0 where
  -- "For each run of the quotient over a word, the input must have a run over that word whose states and stacks, at every step, are members of
  -- the classes shown."
  pub members : {P : T} {D : Configuration T} {w : List ℕ} → B.initial P → (u : Run B (P at []) w D)
      → (p : S) × A.initial p × (d : Configuration S) × (r : Run A (p at []) w d) × AtEveryStep (Corresponds A m) r u
  -- "Every input run appears as a class run too."
  pub classes : {p : S} {d : Configuration S} {w : List ℕ} → A.initial p → (r : Run A (p at []) w d)
      → (P : T) × B.initial P × (D : Configuration T) × (u : Run B (P at []) w D) × AtEveryStep (Corresponds A m) r u
