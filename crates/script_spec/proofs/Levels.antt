-- Levels against runs, for any automaton and any levels: a configuration is held where each neighbouring two of its state and stack are in their
-- level, and the levels after a symbol hold what a step leads to. Assumes nothing.
use mathlib.Core.Path.{◌≡◌, refl}
use mathlib.Core.Logic.{◌↔◌}
use mathlib.Core.List.{List, [], ◌∷◌}
use mathlib.Core.Option.{Option, none, some}
use Prim.Native.Nat.{ℕ, suc}
use native.Mathlib.Omega.{arith}
use Rattle.vpa.specs.Automata.{Automaton, Configuration, ◌at◌, top, Step, internally, calling, returning, Run, done, then, Ended}
use Rattle.vpa.proofs.Calls.{Kinded}

-- R f q t: on the level f, state q is reached over the top t
module _ {S L : Type 0} (A : Automaton S) (R : L → S → Option S → Type 0) where
  -- the state and the stack are in the levels, as many as the stack is high and one
  pub data Held : L → List L → S → List S → Type 0 where
    floor : {f : L} {q : S} → R f q none → Held f [] q []
    upon : {f g : L} {gs : List L} {q s : S} {σ : List S} → R f q (some s) → Held g gs s σ → Held f (g ∷ gs) q (s ∷ σ)

  held-top : {f : L} {gs : List L} {q : S} {σ : List S} → Held f gs q σ → R f q (top σ)
  held-top (floor h) = h
  held-top (upon h k) = h

  -- the same stack under another state and level
  held-over : {f g : L} {gs : List L} {q p : S} {σ : List S} → Held f gs q σ → R g p (top σ) → Held g gs p σ
  held-over (floor h) r = floor r
  held-over (upon h k) r = upon r k

  -- from some configuration that is held, some run over the word ends in an accepting state on the empty stack
  pub record From (f : L) (gs : List L) (w : List ℕ) : Type 0 where
    pub state : S
    pub stack : List S
    pub held : Held f gs state stack
    pub last : Configuration S
    pub run : Run A (state at stack) w last
    pub finally : Ended A last

  -- the level f' after an internal by a from the level f
  pub record Along (a : ℕ) (f f' : L) : Type 0 where
    pub forth : {q q' : S} {t : Option S} → R f q t → A.internal q a q' → R f' q' t
    pub back : {q' : S} {t : Option S} → R f' q' t → (q : S) × R f q t × A.internal q a q'

  -- .. after a call
  pub record Pushed (a : ℕ) (f f' : L) : Type 0 where
    pub forth : {q q' : S} {t : Option S} → R f q t → A.call q a q' → R f' q' (some q)
    pub back : {q' s : S} → R f' q' (some s) → A.call s a q'

  -- .. after a return, with the level g below f
  pub record Popped (a : ℕ) (f g f' : L) : Type 0 where
    pub forth : {q s q' : S} {t : Option S} → R f q (some s) → R g s t → A.return q a s q' → R f' q' t
    pub back : {q' : S} {t : Option S} → R f' q' t → (q s : S) × R f q (some s) × R g s t × A.return q a s q'

  module _ (kind : ℕ → ℕ) (kinded : Kinded A kind) {a : ℕ} {w : List ℕ} where
    -- one step, then the rest
    module _ {f : L} {gs : List L} where
      from_step : {q : S} {σ : List S} {d : Configuration S} → Held f gs q σ → Step A (q at σ) a d → (e : Configuration S) → Run A d w e → Ended A e → From f gs (a ∷ w)
      from_step h s e r n = record { state = _; stack = _; held = h; last = e; run = then s r; finally = n }

    -- by an internal
    pub along : {f f' : L} {gs : List L} → kind a ≡ 0 → Along a f f' → From f gs (a ∷ w) ↔ From f' gs w
    along {f} {f'} {gs} e l = (λ h. forth h.held h.run h.finally, back)
      where
        forth : {q : S} {σ : List S} {d : Configuration S} → Held f gs q σ → Run A (q at σ) (a ∷ w) d → Ended A d → From f' gs w
        forth {d = d} h (then (internally m) r) n = record { state = _; stack = _; held = held-over h (l.forth (held-top h) m); last = d; run = r; finally = n }
        forth h (then (calling m) r) n = absurd (omega (arith, e, kinded.calls m))
        forth h (then (returning m) r) n = absurd (omega (arith, e, kinded.returns m))

        back : From f' gs w → From f gs (a ∷ w)
        back h = let k = l.back (held-top h.held) in from_step (held-over h.held k.1) (internally k.2) h.last h.run h.finally

    -- by a call
    pub pushed : {f f' : L} {gs : List L} → kind a ≡ 1 → Pushed a f f' → From f gs (a ∷ w) ↔ From f' (f ∷ gs) w
    pushed {f} {f'} {gs} e l = (λ h. forth h.held h.run h.finally, λ h. back h.held h.last h.run h.finally)
      where
        forth : {q : S} {σ : List S} {d : Configuration S} → Held f gs q σ → Run A (q at σ) (a ∷ w) d → Ended A d → From f' (f ∷ gs) w
        forth {d = d} h (then (calling m) r) n = record { state = _; stack = _; held = upon (l.forth (held-top h) m) h; last = d; run = r; finally = n }
        forth h (then (internally m) r) n = absurd (omega (arith, e, kinded.internals m))
        forth h (then (returning m) r) n = absurd (omega (arith, e, kinded.returns m))

        back : {q : S} {σ : List S} → Held f' (f ∷ gs) q σ → (d : Configuration S) → Run A (q at σ) w d → Ended A d → From f gs (a ∷ w)
        back (upon h k) d r n = from_step k (calling (l.back h)) d r n

    -- by a return
    pub popped : {k : ℕ} {f g f' : L} {gs : List L} → kind a ≡ suc (suc k) → Popped a f g f' → From f (g ∷ gs) (a ∷ w) ↔ From f' gs w
    popped {k} {f} {g} {f'} {gs} e l = (λ h. forth h.held h.run h.finally, back)
      where
        forth : {q : S} {σ : List S} {d : Configuration S} → Held f (g ∷ gs) q σ → Run A (q at σ) (a ∷ w) d → Ended A d → From f' gs w
        forth {d = d} (upon h j) (then (returning m) r) n = record { state = _; stack = _; held = held-over j (l.forth h (held-top j) m); last = d; run = r; finally = n }
        forth h (then (internally m) r) n = absurd (omega (arith, e, kinded.internals m))
        forth h (then (calling m) r) n = absurd (omega (arith, e, kinded.calls m))

        back : From f' gs w → From f (g ∷ gs) (a ∷ w)
        back h = let j = l.back (held-top h.held) in from_step (upon j.2 (held-over h.held j.3)) (returning j.4) h.last h.run h.finally

    -- "A return on the empty stack has no move."
    pub no_pop : {k : ℕ} {f : L} → kind a ≡ suc (suc k) → ¬ From f [] (a ∷ w)
    no_pop {k} {f} e h = go h.held h.run
      where
        go : {q : S} {σ : List S} {d : Configuration S} → Held f [] q σ → Run A (q at σ) (a ∷ w) d → ⊥
        go (floor j) (then (internally m) r) = absurd (omega (arith, e, kinded.internals m))
        go (floor j) (then (calling m) r) = absurd (omega (arith, e, kinded.calls m))

  -- the word's end, on the empty stack and above it
  pub at_end : {f : L} → From f [] [] ↔ ((q : S) × R f q none × A.accepting q)
  at_end {f} = (λ h. forth h.held h.run h.finally, λ (q, r, n). record { state = q; stack = []; held = floor r; last = q at []; run = done; finally = record { accepting = n; empty = refl } })
    where
      forth : {q : S} {σ : List S} {d : Configuration S} → Held f [] q σ → Run A (q at σ) [] d → Ended A d → (q : S) × R f q none × A.accepting q
      forth (floor {q = q} r) (done) n = (q, r, n.accepting)

  pub still_open : {f g : L} {gs : List L} → ¬ From f (g ∷ gs) []
  still_open {f} {g} {gs} h = go h.held h.run h.finally
    where
      go : {q : S} {σ : List S} {d : Configuration S} → Held f (g ∷ gs) q σ → Run A (q at σ) [] d → Ended A d → ⊥
      go (upon {s = s} {σ = σ} r j) (done) n = none-there n.empty
        where
          none-there : {x : S} {xs : List S} → x ∷ xs ≡ [] → ⊥
          none-there p = let z : ◌≡◌ {A = ℕ} 0 1 = cc in absurd (omega arith)
