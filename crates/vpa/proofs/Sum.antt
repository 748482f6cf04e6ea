-- A run of the sum stays on its side, so that the sum accepts the words that one of the two accepts. Assumes nothing.
use mathlib.Core.Path.{◌≡◌, refl, sym, subst}
use mathlib.Core.Logic.{◌↔◌, ◌⊎◌, inl, inr}
use mathlib.Core.List.{List, [], ◌∷◌, map}
use Prim.Native.Nat.{ℕ}
use native.Mathlib.Omega.{arith}
use Rattle.vpa.specs.Automata.{Automaton, Configuration, ◌at◌, Lawful, Step, internally, calling, returning, Run, done, then, AcceptsBy, Ended, Accepts, EndedIn, EndsIn}
use Rattle.vpa.specs.Quotients.{Corresponds, AtEveryStep, at_end, at-step}
use Rattle.vpa.specs.Combined.{renamed, either, sum}
use Rattle.vpa.proofs.Simulation.{steps-last, sim_accepts}
use Rattle.vpa.proofs.Correspondence.{empty-exact}
use Rattle.vpa.proofs.Homomorphism.{Homomorphism, simulated}

-- ---- a side of an automaton M: the states that m names, which M leaves by A's moves alone

module _ {S U : Type 0} (M : Automaton U) (A : Automaton S) (m : S → U) where
  pub record Side : Type 0 where
    pub finally : {p : S} → A.state p → M.accepting (m p) → A.accepting p
    pub marked : {p : S} {k : ℕ} → A.state p → M.mark (m p) k → A.mark p k
    pub internals : {p : S} {a : ℕ} {v : U} → A.state p → M.internal (m p) a v → (q : S) × (m q ≡ v) × A.internal p a q
    pub calls : {p : S} {a : ℕ} {v : U} → A.state p → M.call (m p) a v → (q : S) × (m q ≡ v) × A.call p a q
    pub returns : {p s : S} {a : ℕ} {v : U} → A.state p → M.return (m p) a (m s) v → (q : S) × (m q ≡ v) × A.return p a s q

  -- nothing of M begins there
  pub record Apart : Type 0 where
    pub finally : {p : S} → A.state p → M.accepting (m p) → ⊥
    pub marked : {p : S} {k : ℕ} → A.state p → M.mark (m p) k → ⊥
    pub internals : {p : S} {a : ℕ} {v : U} → A.state p → M.internal (m p) a v → ⊥
    pub calls : {p : S} {a : ℕ} {v : U} → A.state p → M.call (m p) a v → ⊥
    pub returns : {p s : S} {a : ℕ} {v : U} → A.state p → M.return (m p) a (m s) v → ⊥

  -- a state of A on its side
  pub record On (c : Configuration S) (C : Configuration U) : Type 0 where
    pub corresponds : Corresponds A m c C
    pub state : A.state c.state

  -- an acceptance of A and one of M that say the same of the side
  pub record Agreed (F : Configuration S → Type 0) (G : Configuration U → Type 0) : Type 0 where
    pub forth : (c : Configuration S) (C : Configuration U) → Corresponds A m c C → F c → G C
    pub back : (c : Configuration S) (C : Configuration U) → On c C → G C → F c

  module _ (side : Side) where
    pub ended_agreed : ((p : S) → A.accepting p → M.accepting (m p)) → Agreed (Ended A) (Ended M)
    ended_agreed f = record {
      forth = λ c C h k. record { accepting = rw h.states at (f _ k.accepting); empty = (empty-exact A m c.stack C.stack h.stacks).0 k.empty };
      back = λ c C h k. record { accepting = side.finally h.state (rw h.corresponds.states k.accepting); empty = (empty-exact A m c.stack C.stack h.corresponds.stacks).1 k.empty };
    }

    pub ended_in_agreed : (j : ℕ) → ((p : S) → A.mark p j → M.mark (m p) j) → Agreed (EndedIn A j) (EndedIn M j)
    ended_in_agreed j f = record {
      forth = λ c C h k. record { mark = rw h.states at (f _ k.mark); closed = (empty-exact A m c.stack C.stack h.stacks).0 k.closed };
      back = λ c C h k. record { mark = side.marked h.state (rw h.corresponds.states k.mark); closed = (empty-exact A m c.stack C.stack h.corresponds.stacks).1 k.closed };
    }

  module _ (lawful : Lawful A) (side : Side) where
    side_return : {p : S} {u x v : U} {a : ℕ} {ξ : List U} (σ : List S) → M.return u a x v → A.state p → m p ≡ u → map m σ ≡ x ∷ ξ → (d : Configuration S) × Step A (p at σ) a d × On d (v at ξ)
    side_return [] r h e l = let z : ◌≡◌ {A = ℕ} 0 1 = cc in absurd (omega arith)
    side_return {p} {u} {x} {v} {a} (s ∷ σ) r h e l =
        let f : m s ≡ x = cc in
        let r' : M.return (m p) a (m s) v = rw (e, f) r in
        let k = side.returns h r' in
        (_, returning k.2, record { corresponds = record { states = k.1; stacks = cc }; state = (lawful.returns k.2).2 })

    side_step : {C D : Configuration U} {c : Configuration S} {a : ℕ} → Step M C a D → On c C → (d : Configuration S) × Step A c a d × On d D
    side_step (internally r) h =
        let k = side.internals h.state (rw (← h.corresponds.states) at r) in
        (_, internally k.2, record { corresponds = record { states = k.1; stacks = h.corresponds.stacks }; state = (lawful.internals k.2).1 })
    side_step (calling r) h =
        let k = side.calls h.state (rw (← h.corresponds.states) at r) in
        (_, calling k.2, record { corresponds = record { states = k.1; stacks = λ i. h.corresponds.states i ∷ h.corresponds.stacks i }; state = (lawful.calls k.2).1 })
    side_step {c = c} (returning r) h = side_return c.stack r h.state h.corresponds.states h.corresponds.stacks

    -- a run of M that starts on the side remains there, at every step
    pub side_run : {C D : Configuration U} {c : Configuration S} {w : List ℕ} (r : Run M C w D) → On c C → (d : Configuration S) × (k : Run A c w d) × AtEveryStep On k r
    side_run (done) h = (_, done, at_end h)
    side_run (then s r) h =
        let k = side_step s h in
        let l = side_run r k.2 in
        (l.0, then k.1 l.1, at-step h l.2)

    pub side_accepts : {F : Configuration S → Type 0} {G : Configuration U → Type 0} → Agreed F G
        → {u : U} {C : Configuration U} {w : List ℕ} → Run M (u at []) w C → G C → (p : S) × (m p ≡ u) × A.initial p → AcceptsBy A F w
    side_accepts e r g (p, f, i) =
        let k = side_run r (record { corresponds = record { states = f; stacks = refl }; state = lawful.initially i }) in
        record { first = p; last = k.0; initially = i; run = k.1; finally = e.back _ _ (steps-last k.2) g }

-- ---- the sides of the sum

module _ {S U : Type 0} (A : Automaton S) (m : S → U) where
  pub renamed_side : ((p q : S) → m p ≡ m q → p ≡ q) → Side (renamed A m) A m
  unfolding renamed
  renamed_side one = record {
    finally = λ {p} h (p', e, r). subst A.accepting (one p' p e) r;
    marked = λ {p} {k} h (p', e, r). subst (λ q. A.mark q k) (one p' p e) r;
    internals = λ {p} {a} {v} h (p', q, e, f, r). (q, f, subst (λ x. A.internal x a q) (one p' p e) r);
    calls = λ {p} {a} {v} h (p', q, e, f, r). (q, f, subst (λ x. A.call x a q) (one p' p e) r);
    returns = λ {p} {s} {a} {v} h (p', s', q, e, f, g, r). (q, g, subst (λ x. A.return x a s q) (one p' p e) (subst (λ x. A.return p' a x q) (one s' s f) r));
  }

  pub renamed_homomorphism : Homomorphism A (renamed A m) m
  unfolding renamed
  renamed_homomorphism = record { initially = λ i. (_, refl, i); internals = λ r. (_, _, refl, refl, r); calls = λ r. (_, _, refl, refl, r); returns = λ r. (_, _, _, refl, refl, refl, r) }

  pub renamed-apart : Lawful A → {T : Type 0} (B : Automaton T) (n : T → U) → ((p : S) (q : T) → A.state p → B.state q → m p ≡ n q → ⊥) → Apart (renamed A m) B n
  unfolding renamed
  renamed-apart lawful B n apart = record {
    finally = λ h (p, e, r). apart p _ (lawful.finally r) h e;
    marked = λ h (p, e, r). apart p _ (lawful.marked r) h e;
    internals = λ h (p, q, e, f, r). apart p _ (lawful.internals r).0 h e;
    calls = λ h (p, q, e, f, r). apart p _ (lawful.calls r).0 h e;
    returns = λ h (p, s, q, e, f, g, r). apart p _ (lawful.returns r).0 h e;
  }

not-second : {X Y : Type 0} → (Y → ⊥) → X ⊎ Y → X
not-second n (inl x) = x
not-second n (inr y) = absurd (n y)

not_first : {X Y : Type 0} → (X → ⊥) → X ⊎ Y → Y
not_first n (inl x) = absurd (n x)
not_first n (inr y) = y

module _ {S U : Type 0} (M N : Automaton U) (A : Automaton S) (m : S → U) where
  pub first_side : Side M A m → Apart N A m → Side (either M N) A m
  unfolding either
  first_side s n = record {
    finally = λ h r. s.finally h (not-second (n.finally h) r);
    marked = λ h r. s.marked h (not-second (n.marked h) r);
    internals = λ h r. s.internals h (not-second (n.internals h) r);
    calls = λ h r. s.calls h (not-second (n.calls h) r);
    returns = λ h r. s.returns h (not-second (n.returns h) r);
  }

  pub second_side : Side N A m → Apart M A m → Side (either M N) A m
  unfolding either
  second_side s n = record {
    finally = λ h r. s.finally h (not_first (n.finally h) r);
    marked = λ h r. s.marked h (not_first (n.marked h) r);
    internals = λ h r. s.internals h (not_first (n.internals h) r);
    calls = λ h r. s.calls h (not_first (n.calls h) r);
    returns = λ h r. s.returns h (not_first (n.returns h) r);
  }

  pub first_homomorphism : Homomorphism A M m → Homomorphism A (either M N) m
  unfolding either
  first_homomorphism c = record { initially = λ i. inl (c.initially i); internals = λ r. inl (c.internals r); calls = λ r. inl (c.calls r); returns = λ r. inl (c.returns r) }

  pub second_homomorphism : Homomorphism A N m → Homomorphism A (either M N) m
  unfolding either
  second_homomorphism c = record { initially = λ i. inr (c.initially i); internals = λ r. inr (c.internals r); calls = λ r. inr (c.calls r); returns = λ r. inr (c.returns r) }

-- ---- the words

module _ {S T U : Type 0} (A : Automaton S) (B : Automaton T) (l : S → U) (r : T → U) where
  abbrev M : Automaton U
  M = sum A B l r

  -- the names are told apart: those of each by themselves, and no state of the first has a name of the second's
  pub record Disjoint : Type 0 where
    pub firsts : (p q : S) → l p ≡ l q → p ≡ q
    pub seconds : (p q : T) → r p ≡ r q → p ≡ q
    pub apart : (p : S) (q : T) → A.state p → B.state q → l p ≡ r q → ⊥

  module _ (lawful : Lawful A) (lawful' : Lawful B) (disjoint : Disjoint) where
    first : Side M A l
    first = first_side (renamed A l) (renamed B r) A l (renamed_side A l disjoint.firsts) (renamed-apart B r lawful' A l (λ q p h k e. disjoint.apart p q k h (sym e)))

    second : Side M B r
    second = second_side (renamed A l) (renamed B r) B r (renamed_side B r disjoint.seconds) (renamed-apart A l lawful B r disjoint.apart)

    from_first : Homomorphism A M l
    from_first = first_homomorphism (renamed A l) (renamed B r) A l (renamed_homomorphism A l)

    from_second : Homomorphism B M r
    from_second = second_homomorphism (renamed A l) (renamed B r) B r (renamed_homomorphism B r)

    -- for any acceptance of the sum that is one of each on its side
    pub sum-exact : {F : Configuration S → Type 0} {G : Configuration T → Type 0} {H : Configuration U → Type 0} → Agreed M A l F H → Agreed M B r G H
        → (w : List ℕ) → AcceptsBy M H w ↔ AcceptsBy A F w ⊎ AcceptsBy B G w
    unfolding either renamed
    sum-exact {F} {G} {H} e f w = (λ h. started h h.initially, back)
      where
        started : (h : AcceptsBy M H w) → M.initial h.first → AcceptsBy A F w ⊎ AcceptsBy B G w
        started h (inl i) = inl (side_accepts M A l lawful first e h.run h.finally i)
        started h (inr i) = inr (side_accepts M B r lawful' second f h.run h.finally i)

        back : AcceptsBy A F w ⊎ AcceptsBy B G w → AcceptsBy M H w
        back (inl h) = sim_accepts A M (Corresponds A l) (simulated A M l from_first) e.forth h
        back (inr h) = sim_accepts B M (Corresponds B r) (simulated B M r from_second) f.forth h

    -- the sum accepts "the words that one of them accepts"
    pub sum-words : (w : List ℕ) → Accepts M w ↔ Accepts A w ⊎ Accepts B w
    unfolding either renamed
    sum-words = sum-exact (ended_agreed M A l first (λ p h. inl (p, refl, h))) (ended_agreed M B r second (λ q h. inr (q, refl, h)))

    -- "the words of each mark are those of both"
    pub sum-marks : (k : ℕ) (w : List ℕ) → EndsIn M k w ↔ EndsIn A k w ⊎ EndsIn B k w
    unfolding either renamed
    sum-marks k = sum-exact (ended_in_agreed M A l first k (λ p h. inl (p, refl, h))) (ended_in_agreed M B r second k (λ q h. inr (q, refl, h)))
