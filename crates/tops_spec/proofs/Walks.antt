-- The rounds as walks over records: what a step adds, and what holds after all steps. Assumes nothing.
use mathlib.Core.Path.{◌≡◌, refl, ap, ◌∙◌}
use mathlib.Core.Logic.{◌⊎◌, inl, inr}
use mathlib.Core.Bool.{Bool, true, false}
use mathlib.Core.List.{List, [], ◌∷◌, Memᴰ}
use Prim.Native.Nat.{ℕ, ◌^◌, ◌<◌, ◌≤◌}
use native.Mathlib.Omega.{arith}
use native.Mathlib.Decide.{ℕ_discrete, dec_lt}
use lib.ListN.{length, get_or, get_or-eq_default, length-set}
use lib.Seq.{get_or-set_same, get_or-set_other}
use lib.Dec.{eqb}
use lib.Bits.{bit_or}
use borrow.Author.Tests.{ne_eqb}
use Rattle.lists.specs.Bits.{Bit}
use Rattle.lists.proofs.Bits.{or-bit, bit-left, bit-right, no_bit, has_of}
use Rattle.table_spec.specs.File.{Table}
use Rattle.tops_spec.specs.Tops.{add, by_internals, by_calls, by_returns, live, round}

-- each word of f is within that of g
pub record InWords (f g : List ℕ) : Type 0 where
  pub keeps : (q x : ℕ) → Bit (get_or f q 0) x → Bit (get_or g q 0) x

pub below_refl : (f : List ℕ) → InWords f f
below_refl f = record { keeps = λ q x b. b }

pub below_trans : {f g h : List ℕ} → InWords f g → InWords g h → InWords f h
below_trans a b = record { keeps = λ q x c. b.keeps q x (a.keeps q x c) }

-- ---- add

pub length-add : (f : List ℕ) (q w : ℕ) → length (add f q w) ≡ length f
unfolding add
length-add f q w = length-set f q (bit_or (get_or f q 0) w)

pub add-bit : (f : List ℕ) (q w p x : ℕ) → Bit (get_or (add f q w) p 0) x → Bit (get_or f p 0) x ⊎ ((p ≡ q) × Bit w x)
unfolding add
add-bit f q w p x h = go (ℕ_discrete p q) (dec_lt q (length f))
  where
    own : p ≡ q → Bit (get_or f q 0) x ⊎ Bit w x → Bit (get_or f p 0) x ⊎ ((p ≡ q) × Bit w x)
    own e (inl b) = inl (rw e b)
    own e (inr b) = inr (e, b)

    go : Dec (p ≡ q) → Dec (q < length f) → Bit (get_or f p 0) x ⊎ ((p ≡ q) × Bit w x)
    go (no n) d = inl (rw (get_or-set_other f q p _ 0 n) at h)
    go (yes e) (yes l) = own e (or-bit (get_or f q 0) w x (rw (e, get_or-set_same f q _ 0 l) at h))
    go (yes e) (no l) =
        let k : length (add f q w) ≤ p = simp length-set (omega arith) in
        absurd (no_bit x (rw (get_or-eq_default (add f q w) 0 k) at h))

pub add-below : (f : List ℕ) (q w : ℕ) → InWords f (add f q w)
unfolding add
add-below f q w = record { keeps = λ p x b. go p x b (ℕ_discrete p q) (dec_lt q (length f)) }
  where
    go : (p x : ℕ) → Bit (get_or f p 0) x → Dec (p ≡ q) → Dec (q < length f) → Bit (get_or (add f q w) p 0) x
    go p x b (no n) d = rw (get_or-set_other f q p _ 0 n) b
    go p x b (yes e) (yes l) = rw (e, get_or-set_same f q _ 0 l) (bit-left (get_or f q 0) w x (rw e at b))
    go p x b (yes e) (no l) =
        let k : length f ≤ p = omega arith in
        absurd (no_bit x (rw (get_or-eq_default f 0 k) at b))

pub add-own : (f : List ℕ) (q w x : ℕ) → q < length f → Bit w x → Bit (get_or (add f q w) q 0) x
unfolding add
add-own f q w x l b = rw (get_or-set_same f q _ 0 l) (bit-right (get_or f q 0) w x b)

-- ---- one step for a record of each kind

unfoldable pub internal_step : List ℕ → List ℕ → List ℕ
internal_step r f = by_internals (r ∷ []) f

unfoldable pub call_step : List ℕ → List ℕ → List ℕ
call_step r f = by_calls (r ∷ []) f

unfoldable pub return_step : List ℕ → List ℕ → List ℕ
return_step r f = by_returns (r ∷ []) f

-- an internal, a call from a state that has a top, a return that is live
pub internal-step : (r f : List ℕ) → internal_step r f ≡ add f (get_or r 2 0) (get_or f (get_or r 0 0) 0)
unfolding internal_step by_internals
internal-step r f = refl

pub call_step_lem : (r f : List ℕ) (x : ℕ) → Bit (get_or f (get_or r 0 0) 0) x → call_step r f ≡ add f (get_or r 2 0) (2 ^ get_or r 0 0)
unfolding call_step by_calls
call_step_lem r f x b = rw (ne_eqb (get_or f (get_or r 0 0) 0) 0 (λ e. no_bit x (rw e at b)), by_calls)

live_by : (r f : List ℕ) → Bit (get_or f (get_or r 0 0) 0) (get_or r 2 0) → live f r ≡ true
unfolding live
live_by r f b = has_of f (get_or r 0 0) (get_or r 2 0) b

pub return-step : (r f : List ℕ) → Bit (get_or f (get_or r 0 0) 0) (get_or r 2 0) → return_step r f ≡ add f (get_or r 3 0) (get_or f (get_or r 2 0) 0)
unfolding return_step by_returns
return-step r f b = rw (live_by r f b, by_returns)

-- the steps of all records, in their order
unfoldable pub walk : (List ℕ → List ℕ → List ℕ) → List (List ℕ) → List ℕ → List ℕ
walk step [] f = f
walk step (r ∷ rs) f = walk step rs (step r f)

pub internals-walk : (rs : List (List ℕ)) (f : List ℕ) → by_internals rs f ≡ walk internal_step rs f
unfolding by_internals walk internal_step
internals-walk [] f = refl
internals-walk (r ∷ rs) f = internals-walk rs (internal_step r f)

pub calls-walk : (rs : List (List ℕ)) (f : List ℕ) → by_calls rs f ≡ walk call_step rs f
unfolding by_calls walk call_step
calls-walk [] f = refl
calls-walk (r ∷ rs) f = calls-walk rs (call_step r f)

pub returns-walk : (rs : List (List ℕ)) (f : List ℕ) → by_returns rs f ≡ walk return_step rs f
unfolding by_returns walk return_step
returns-walk [] f = refl
returns-walk (r ∷ rs) f = returns-walk rs (return_step r f)

pub round-walk : (t : Table) (f : List ℕ) → round t f ≡ walk return_step t.returns (walk call_step t.calls (walk internal_step t.internals f))
unfolding round
round-walk t f = returns-walk t.returns _ ∙ ap (walk return_step t.returns) (calls-walk t.calls _ ∙ ap (walk call_step t.calls) (internals-walk t.internals f))

-- ---- a step that only adds

pub record Grows (step : List ℕ → List ℕ → List ℕ) : Type 0 where
  pub longer : (r f : List ℕ) → InWords f (step r f)
  pub wide : (r f : List ℕ) → length (step r f) ≡ length f

pub internal-grows : Grows internal_step
unfolding internal_step by_internals
internal-grows = record { longer = λ r f. add-below f _ _; wide = λ r f. length-add f _ _ }

pub call-grows : Grows call_step
unfolding call_step by_calls
call-grows = record { longer = λ r f. below r f (eqb (get_or f (get_or r 0 0) 0) 0); wide = λ r f. wide r f (eqb (get_or f (get_or r 0 0) 0) 0) }
  where
    below : (r f : List ℕ) (b : Bool) → InWords f (elim b [ true ↦ f | false ↦ add f (get_or r 2 0) (2 ^ get_or r 0 0) ])
    below r f true = below_refl f
    below r f false = add-below f _ _

    wide : (r f : List ℕ) (b : Bool) → length {A = ℕ} (elim b [ true ↦ f | false ↦ add f (get_or r 2 0) (2 ^ get_or r 0 0) ]) ≡ length f
    wide r f true = refl
    wide r f false = length-add f _ _

pub return-grows : Grows return_step
unfolding return_step by_returns
return-grows = record { longer = λ r f. below r f (live f r); wide = λ r f. wide r f (live f r) }
  where
    below : (r f : List ℕ) (b : Bool) → InWords f (elim b [ true ↦ add f (get_or r 3 0) (get_or f (get_or r 2 0) 0) | false ↦ f ])
    below r f true = add-below f _ _
    below r f false = below_refl f

    wide : (r f : List ℕ) (b : Bool) → length {A = ℕ} (elim b [ true ↦ add f (get_or r 3 0) (get_or f (get_or r 2 0) 0) | false ↦ f ]) ≡ length f
    wide r f true = length-add f _ _
    wide r f false = refl

-- what each step keeps, the walk keeps
pub walk-keeps :
    (P : List ℕ → Type 0) (step : List ℕ → List ℕ → List ℕ) (rs : List (List ℕ)) (f : List ℕ)
    → ((r : List ℕ) → Memᴰ r rs → (g : List ℕ) → P g → P (step r g)) → P f → P (walk step rs f)
unfolding walk
walk-keeps P step [] f h p = p
walk-keeps P step (r ∷ rs) f h p = walk-keeps P step rs (step r f) (λ s m. h s (Memᴰ.tail m)) (h r (Memᴰ.head refl) f p)

module _ (step : List ℕ → List ℕ → List ℕ) (grows : Grows step) where
  pub walk_longer : (rs : List (List ℕ)) (f : List ℕ) → InWords f (walk step rs f)
  walk_longer rs f = walk-keeps (InWords f) step rs f (λ r m g h. below_trans h (grows.longer r g)) (below_refl f)

  pub walk-wide : (rs : List (List ℕ)) (f : List ℕ) → length (walk step rs f) ≡ length f
  walk-wide rs f = walk-keeps (λ g. length g ≡ length f) step rs f (λ r m g h. grows.wide r g ∙ h) refl

  -- the step of a record among them was made from words no smaller than the first ones, and nothing of it was lost
  pub walk_at : (rs : List (List ℕ)) (f r : List ℕ) → Memᴰ r rs → (g : List ℕ) × InWords f g × (length g ≡ length f) × InWords (step r g) (walk step rs f)
  unfolding walk
  walk_at [] f r m = elim m [ ]
  walk_at (s ∷ rs) f r (Memᴰ.head e) = (f, below_refl f, refl, rw e (walk_longer rs (step s f)))
  walk_at (s ∷ rs) f r (Memᴰ.tail m) =
      let h = walk_at rs (step s f) r m in
      (h.0, below_trans (grows.longer s f) h.1, h.2 ∙ grows.wide s f, h.3)
