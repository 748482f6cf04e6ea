-- Behind a run the stack is as high as the symbols of its word say, so that a word that is accepted or ends in a mark leaves nothing open
-- (document 02, (iv) and (v)). Assumes nothing.
use mathlib.Core.Path.{◌≡◌, refl, ap, ◌∙◌}
use mathlib.Core.List.{List, []}
use Prim.Native.Nat.{ℕ}
use native.Mathlib.Omega.{arith}
use lib.ListN.{length}
use Rattle.vpa.specs.Automata.{Automaton, Configuration, Step, internally, calling, returning, Run, done, then, AcceptsBy, Accepts, EndsIn, open_behind, open_after}

module _ {S : Type 0} (A : Automaton S) (kind : ℕ → ℕ) where
  -- each move goes by a symbol of its kind
  pub record Kinded : Type 0 where
    pub internals : {q q' : S} {a : ℕ} → A.internal q a q' → kind a ≡ 0
    pub calls : {q q' : S} {a : ℕ} → A.call q a q' → kind a ≡ 1
    pub returns : {q s q' : S} {a : ℕ} → A.return q a s q' → kind a ≡ 2

  module _ (kinded : Kinded) where
    step_open : {c d : Configuration S} {a : ℕ} → Step A c a d → open_behind (kind a) (length c.stack) ≡ length d.stack
    unfolding open_behind
    step_open (internally r) = rw (kinded.internals r, open_behind)
    step_open (calling r) = rw (kinded.calls r, open_behind)
    step_open (returning r) = rw (kinded.returns r, open_behind) (omega arith)

    pub run_open : {c d : Configuration S} {w : List ℕ} → Run A c w d → open_after kind (length c.stack) w ≡ length d.stack
    unfolding open_after
    run_open (done) = refl
    run_open (then s r) = rw (step_open s) (run_open r)

    -- a word with a run that ends on the empty stack leaves nothing open
    closed_by_lem : {F : Configuration S → Type 0} {w : List ℕ} → ((c : Configuration S) → F c → c.stack ≡ []) → AcceptsBy A F w → open_after kind 0 w ≡ 0
    closed_by_lem empty h = run_open h.run ∙ ap length (empty h.last h.finally)

    -- so does what is accepted
    pub accepted-closed : {w : List ℕ} → Accepts A w → open_after kind 0 w ≡ 0
    accepted-closed h = closed_by_lem (λ c f. f.empty) h

    -- and what ends in a mark
    pub ends-closed : {k : ℕ} {w : List ℕ} → EndsIn A k w → open_after kind 0 w ≡ 0
    ends-closed h = closed_by_lem (λ c f. f.closed) h
