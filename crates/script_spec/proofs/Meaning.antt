-- What reading a script by levels means: yes exactly when the table accepts it. Assumes nothing.
use mathlib.Core.Path.{◌≡◌, refl, sym, ◌∙◌, subst}
use mathlib.Core.Logic.{◌↔◌, ◌⊎◌, inl, inr}
use mathlib.Core.Bool.{Bool, true, false, ◌&&◌, true≢false}
use mathlib.Core.List.{List, [], ◌∷◌, Memᴰ}
use mathlib.Core.Option.{Option, none, some}
use Prim.Native.Nat.{ℕ, zero, suc, ◌-◌, ◌%◌, ◌^◌, ◌<◌, ◌≤◌}
use native.Mathlib.Omega.{arith}
use native.Mathlib.Decide.{dec_lt}
use lib.ListN.{length, get_or, replicate, length-map, get_or-eq_default}
use lib.Dec.{eqb}
use borrow.Author.Tests.{eqb-true, eqb-false, eq-eqb}
use Rattle.lists.specs.Lists.{any, upto}
use Rattle.lists.specs.Bits.{Bit, has}
use Rattle.lists.proofs.Bits.{no_bit, bit-own, bit-pow, has-true, has_of}
use Rattle.lists.proofs.Members.{and-true, and_of, any-true, any_of, upto_of, get_d_map}
use Rattle.lists.proofs.Words.{get_d_padded}
use Rattle.limits.specs.Limits.{state_most}
use Rattle.limits.specs.declared.Limits.{Limits}
use Rattle.vpa.specs.Automata.{Configuration, ◌at◌, Run, Ended, Accepts}
use Rattle.table_spec.specs.File.{Table}
use Rattle.table_spec.specs.Reading.{WellFormed, is_initial, is_accepting}
use Rattle.table_spec.specs.Language.{count, byte_of, automaton, kind_of}
use Rattle.table_spec.proofs.Facts.{Fit, internals-fit, calls-fit, returns-fit, most-states, three_bytes, four_bytes}
use Rattle.table_spec.proofs.Open.{moves_kinded}
use Rattle.tops_spec.specs.Tops.{start_words}
use Rattle.script_spec.specs.Script.{Level, Levels, nowhere, gain, by_return, moved, returned, behind, ended, reads, started}
use Rattle.script_spec.proofs.Levels.{Held, floor, From, Along, Pushed, Popped, along, pushed, popped, no_pop, at_end, still_open}
use Rattle.script_spec.proofs.Adding.{Gains, gained-forth, gained-back}

-- the number of a top
abbrev pub top_number : Option ℕ → ℕ
top_number none = state_most
top_number (some s) = s

-- on the level f, q is reached over t
pub record Over (f : Level) (q : ℕ) (t : Option ℕ) : Type 0 where
  pub bit : Bit (get_or f q 0) (top_number t)

zero_word : (k q : ℕ) → ◌≡◌ {A = ℕ} (get_or (replicate k 0) q 0) 0
zero_word zero q = refl
zero_word (suc k) zero = refl
zero_word (suc k) (suc q) = zero_word k q

-- nothing is reached nowhere
nowhere-bit : (q x : ℕ) → Bit (get_or nowhere q 0) x → ⊥
nowhere-bit q x b = no_bit x (rw (zero_word state_most q) at b)

only : (p x : ℕ) {P : Type 0} → Bit (get_or nowhere p 0) x ⊎ P → P
only p x (inl b) = absurd (nowhere-bit p x b)
only p x (inr b) = b

-- by a call: q itself, if it is reached
gain-bit : (f : Level) (q x : ℕ) → Bit (gain true f q) x → x ≡ q
unfolding gain
gain-bit f q x b = go (eqb (get_or f q 0) 0) b
  where
    go : (t : Bool) → Bit (elim t [ true ↦ 0 | false ↦ 2 ^ q ]) x → x ≡ q
    go true b = absurd (no_bit x b)
    go false b = bit-pow q x b

gain-own : (f : Level) (q x : ℕ) → Bit (get_or f q 0) x → Bit (gain true f q) q
unfolding gain
gain-own f q x b = go (eqb (get_or f q 0) 0) refl
  where
    go : (t : Bool) → eqb (get_or f q 0) 0 ≡ t → Bit (elim t [ true ↦ 0 | false ↦ 2 ^ q ]) q
    go true e = absurd (no_bit x (subst (λ w. Bit w x) (eqb-true (get_or f q 0) 0 e) b))
    go false e = bit-own q

-- by a return: what the state that it pops has below, if it was reached over that one
return-bit : (f g : Level) (r : List ℕ) (x : ℕ) → Bit (by_return f g r) x → Bit (get_or f (get_or r 0 0) 0) (get_or r 2 0) × Bit (get_or g (get_or r 2 0) 0) x
unfolding by_return
return-bit f g r x b = go (has f (get_or r 0 0) (get_or r 2 0)) refl b
  where
    go : (t : Bool) → has f (get_or r 0 0) (get_or r 2 0) ≡ t → Bit (elim t [ true ↦ get_or g (get_or r 2 0) 0 | false ↦ 0 ]) x → Bit (get_or f (get_or r 0 0) 0) (get_or r 2 0) × Bit (get_or g (get_or r 2 0) 0) x
    go true e c = (has-true f (get_or r 0 0) (get_or r 2 0) e, c)
    go false e c = absurd (no_bit x c)

return-own : (f g : Level) (r : List ℕ) (x : ℕ) → Bit (get_or f (get_or r 0 0) 0) (get_or r 2 0) → Bit (get_or g (get_or r 2 0) 0) x → Bit (by_return f g r) x
unfolding by_return
return-own f g r x h b = rw (has_of f (get_or r 0 0) (get_or r 2 0) h, by_return) b

-- the record itself, of three bytes and of four
three : {gain : List ℕ → ℕ} {a p x : ℕ} {rs : List (List ℕ)} → ((r : List ℕ) → Memᴰ r rs → length r ≡ 3) → (b : Gains gain 2 a rs p x) → Memᴰ (get_or b.by 0 0 ∷ a ∷ p ∷ []) rs
three {rs = rs} wide b = subst (λ r. Memᴰ r rs) (three_bytes b.by (wide b.by b.among) ∙ (λ i. get_or b.by 0 0 ∷ b.symbol i ∷ b.target i ∷ [])) b.among

four :
    {gain : List ℕ → ℕ} {a p x : ℕ} {rs : List (List ℕ)} → ((r : List ℕ) → Memᴰ r rs → length r ≡ 4) → (b : Gains gain 3 a rs p x)
    → Memᴰ (get_or b.by 0 0 ∷ a ∷ get_or b.by 2 0 ∷ p ∷ []) rs
four {rs = rs} wide b = subst (λ r. Memᴰ r rs) (four_bytes b.by (wide b.by b.among) ∙ (λ i. get_or b.by 0 0 ∷ b.symbol i ∷ get_or b.by 2 0 ∷ b.target i ∷ [])) b.among

module _ {L : Limits} {t : Table} (wf : WellFormed L t) where
  few : count t ≤ state_most
  few = most-states wf

  -- a record's target is a state
  small : {kind w : ℕ} {rs : List (List ℕ)} → Fit t kind w rs → (to : ℕ) → 1 < to → to < w → (r : List ℕ) → Memᴰ r rs → get_or r to 0 < length nowhere
  small h to l k r m = omega (arith, few, h.states r m to (λ z. omega arith) k)

  -- ---- the levels after a symbol

  module _ (a : ℕ) (f : Level) where
    internal_level : Along (automaton t) Over a f (moved t.internals a false f)
    unfolding moved gain
    internal_level =
        let h = internals-fit wf in
        record {
          forth = λ {q} {q'} {t = x} r m. record { bit = gained-back _ 2 a t.internals nowhere (small h 2 (omega arith) (omega arith)) q' (top_number x) (record { by = q ∷ a ∷ q' ∷ []; among = m; symbol = refl; target = refl; gains = r.bit }) };
          back = λ {q'} {t = x} r. let b = only q' (top_number x) (gained-forth _ 2 a t.internals nowhere q' (top_number x) r.bit) in (get_or b.by 0 0, record { bit = b.gains }, three h.wide b);
        }

    call_level : Pushed (automaton t) Over a f (moved t.calls a true f)
    unfolding moved
    call_level =
        let h = calls-fit wf in
        record {
          forth = λ {q} {q'} {t = x} r m. record { bit = gained-back _ 2 a t.calls nowhere (small h 2 (omega arith) (omega arith)) q' q (record { by = q ∷ a ∷ q' ∷ []; among = m; symbol = refl; target = refl; gains = gain-own f q (top_number x) r.bit }) };
          back = λ {q'} {s} r. let b = only q' s (gained-forth _ 2 a t.calls nowhere q' s r.bit) in subst (λ i. Memᴰ (i ∷ a ∷ q' ∷ []) t.calls) (sym (gain-bit f (get_or b.by 0 0) s b.gains)) (three h.wide b);
        }

    return_level : (g : Level) → Popped (automaton t) Over a f g (returned t.returns a f g)
    unfolding returned
    return_level g =
        let h = returns-fit wf in
        record {
          forth = λ {q} {s} {q'} {t = x} r u m. record { bit = gained-back (by_return f g) 3 a t.returns nowhere (small h 3 (omega arith) (omega arith)) q' (top_number x) (record { by = q ∷ a ∷ s ∷ q' ∷ []; among = m; symbol = refl; target = refl; gains = return-own f g (q ∷ a ∷ s ∷ q' ∷ []) (top_number x) r.bit u.bit }) };
          back = λ {q'} {t = x} r.
              let b = only q' (top_number x) (gained-forth (by_return f g) 3 a t.returns nowhere q' (top_number x) r.bit) in
              let c = return-bit f g b.by (top_number x) b.gains in
              (get_or b.by 0 0, get_or b.by 2 0, record { bit = c.0 }, record { bit = c.1 }, four h.wide b);
        }

  -- ---- the end, the start, and the whole

  reached : Level → ℕ → Bool
  reached f q = is_accepting (byte_of t q) && has f q state_most

  accepting-state : (q : ℕ) → (automaton t).accepting q → q < count t
  accepting-state q e = go (dec_lt q (count t))
    where
      go : Dec (q < count t) → q < count t
      go (yes l) = l
      go (no l) = absurd (omega (arith, e, get_or-eq_default t.states 0 {n = q} (omega arith)))

  ended-exact : (f : Level) → (any (reached f) (upto (count t)) ≡ true) ↔ ((q : ℕ) × Over f q none × (automaton t).accepting q)
  unfolding is_accepting reached
  ended-exact f = (forth, λ b. back b.0 b.1 b.2)
    where
      forth : any (reached f) (upto (count t)) ≡ true → (q : ℕ) × Over f q none × (automaton t).accepting q
      forth e =
          let b = any-true (reached f) (upto (count t)) e in
          let c = and-true (is_accepting (byte_of t b.0)) (has f b.0 state_most) b.2 in
          (b.0, record { bit = has-true f b.0 state_most c.1 }, eqb-true _ _ c.0)

      back : (q : ℕ) → Over f q none → (automaton t).accepting q → any (reached f) (upto (count t)) ≡ true
      back q o e = any_of (reached f) (upto (count t)) q (upto_of (count t) q (accepting-state q e)) (and_of (eq-eqb _ _ e) (has_of f q state_most o.bit))

  -- from the levels on
  abbrev FromLevels : Levels → List ℕ → Type 0
  FromLevels l w = From (automaton t) Over l.now l.below w

  end_from : (l : Levels) → (ended t l ≡ true) ↔ FromLevels l []
  unfolding ended reached
  end_from l = go l.now l.below
    where
      go : (f : Level) (gs : List Level) → (ended t (record { now = f; below = gs }) ≡ true) ↔ From (automaton t) Over f gs []
      go f [] = let e = ended-exact f in let a = at_end (automaton t) Over {f = f} in (λ h. a.1 (e.0 h), λ h. e.1 (a.0 h))
      go f (g ∷ gs) = (λ h. absurd (true≢false (sym h)), λ h. absurd (still_open (automaton t) Over h))

  -- what goes on after a symbol
  abbrev GoesOn : Option Levels → List ℕ → Type 0
  GoesOn none w = ⊥
  GoesOn (some l) w = FromLevels l w

  behind-from : (a k : ℕ) → kind_of t a ≡ k → (f : Level) (gs : List Level) (w : List ℕ) → From (automaton t) Over f gs (a ∷ w) ↔ GoesOn (behind t a k (record { now = f; below = gs })) w
  unfolding behind
  behind-from a zero e f gs w = along (automaton t) Over (kind_of t) (moves_kinded wf) e (internal_level a f)
  behind-from a (suc zero) e f gs w = pushed (automaton t) Over (kind_of t) (moves_kinded wf) e (call_level a f)
  behind-from a (suc (suc k)) e f [] w = (λ h. no_pop (automaton t) Over (kind_of t) (moves_kinded wf) e h, λ h. absurd h)
  behind-from a (suc (suc k)) e f (g ∷ gs) w = popped (automaton t) Over (kind_of t) (moves_kinded wf) e (return_level a f g)

  -- yes exactly when some run goes on from the levels to an accepting state on the empty stack
  reads-from : (w : List ℕ) (l : Levels) → (reads t l w ≡ true) ↔ FromLevels l w
  unfolding reads
  reads-from [] l = end_from l
  reads-from (a ∷ w) l =
      let h = behind-from a (kind_of t a) refl l.now l.below w in
      let k = go (reads-from w) (behind t a (kind_of t a) l) in
      (λ e. h.1 (k.0 e), λ f. k.1 (h.0 f))
    where
      go : ((l : Levels) → (reads t l w ≡ true) ↔ FromLevels l w) → (o : Option Levels) → (elim o [ none ↦ false | some k ↦ reads t k w ] ≡ true) ↔ GoesOn o w
      go ih none = (λ e. absurd (true≢false (sym e)), λ h. absurd h)
      go ih (some l) = ih l

  -- an initial state is reached on the empty stack, and no other
  start_word_lem : ℕ → ℕ
  start_word_lem byte = elim (is_initial byte) [ true ↦ 2 ^ state_most | false ↦ 0 ]

  start-at : (q : ℕ) → q < count t → get_or (started t).now q 0 ≡ start_word_lem (byte_of t q)
  unfolding started start_words start_word_lem
  start-at q l = get_d_padded (start_words state_most t) (state_most - count t) q ∙ get_d_map start_word_lem t.states q 0 0 l

  start-past : (q : ℕ) → count t ≤ q → get_or (started t).now q 0 ≡ 0
  unfolding started start_words start_word_lem
  start-past q l =
      let e : length (start_words state_most t) ≡ count t = length-map t.states start_word_lem in
      get_d_padded (start_words state_most t) (state_most - count t) q ∙ get_or-eq_default (start_words state_most t) 0 {n = q} (omega (arith, e))

  started-exact : (q : ℕ) → Over (started t).now q none ↔ (automaton t).initial q
  unfolding start_word_lem is_initial
  started-exact q = (λ h. forth (dec_lt q (count t)) h.bit, λ h. record { bit = back (dec_lt q (count t)) h })
    where
      told : (b : Bool) → is_initial (byte_of t q) ≡ b → Bit (elim b [ true ↦ 2 ^ state_most | false ↦ 0 ]) state_most → byte_of t q % 2 ≡ 1
      told true e h = eqb-true _ _ e
      told false e h = absurd (no_bit state_most h)

      forth : Dec (q < count t) → Bit (get_or (started t).now q 0) state_most → byte_of t q % 2 ≡ 1
      forth (yes l) h = told (is_initial (byte_of t q)) refl (subst (λ w. Bit w state_most) (start-at q l) h)
      forth (no l) h = absurd (no_bit state_most (subst (λ w. Bit w state_most) (start-past q (omega arith)) h))

      own : (b : Bool) → is_initial (byte_of t q) ≡ b → byte_of t q % 2 ≡ 1 → Bit (elim b [ true ↦ 2 ^ state_most | false ↦ 0 ]) state_most
      own true e h = bit-own state_most
      own false e h = absurd (eqb-false _ _ e h)

      back : Dec (q < count t) → byte_of t q % 2 ≡ 1 → Bit (get_or (started t).now q 0) state_most
      back (yes l) h = subst (λ w. Bit w state_most) (sym (start-at q l)) (own (is_initial (byte_of t q)) refl h)
      back (no l) h = absurd (omega (arith, h, get_or-eq_default t.states 0 {n = q} (omega arith)))

  accepted-from : (w : List ℕ) → FromLevels (started t) w ↔ Accepts (automaton t) w
  unfolding started
  accepted-from w = (λ h. forth h.held h.run h.finally, λ h. record { state = h.first; stack = []; held = floor ((started-exact h.first).1 h.initially); last = h.last; run = h.run; finally = h.finally })
    where
      forth : {q : ℕ} {σ : List ℕ} {d : Configuration ℕ} → Held (automaton t) Over (started t).now [] q σ → Run (automaton t) (q at σ) w d → Ended (automaton t) d → Accepts (automaton t) w
      forth {d = d} (floor {q = q} r) u n = record { first = q; last = d; initially = (started-exact q).0 r; run = u; finally = n }

  -- "The answer is yes exactly when 01's runs accept it"
  pub reads-exact : (w : List ℕ) → (reads t (started t) w ≡ true) ↔ Accepts (automaton t) w
  reads-exact w = let h = reads-from w (started t) in let k = accepted-from w in (λ e. k.0 (h.0 e), λ a. h.1 (k.1 a))
