-- A homomorphism of automata: a map of states that respects initial states and moves. The image of a run is a run. Assumes nothing.
use Prim.Native.Nat.{ℕ}
use Rattle.vpa.specs.Automata.{Automaton, Configuration, Step, internally, calling, returning}
use Rattle.vpa.specs.Quotients.{Corresponds}
use Rattle.vpa.proofs.Simulation.{Simulation}
use Rattle.vpa.proofs.Correspondence.{image, image_path, image_corresponds}

module _ {S T : Type 0} (A : Automaton S) (B : Automaton T) (m : S → T) where
  pub record Homomorphism : Type 0 where
    pub initially : {q : S} → A.initial q → B.initial (m q)
    pub internals : {q q' : S} {a : ℕ} → A.internal q a q' → B.internal (m q) a (m q')
    pub calls : {q q' : S} {a : ℕ} → A.call q a q' → B.call (m q) a (m q')
    pub returns : {q s q' : S} {a : ℕ} → A.return q a s q' → B.return (m q) a (m s) (m q')

  module _ (maps : Homomorphism) where
    image-step : {c d : Configuration S} {a : ℕ} → Step A c a d → Step B (image A m c) a (image A m d)
    image-step (internally r) = internally (maps.internals r)
    image-step (calling r) = calling (maps.calls r)
    image-step (returning r) = returning (maps.returns r)

    pub simulated : Simulation A B (Corresponds A m)
    simulated = record {
      starts = λ {p} i. (m p, maps.initially i, image_corresponds A m _);
      steps = λ h s. (_, rw (image_path A m h) at (image-step s), image_corresponds A m _);
    }
