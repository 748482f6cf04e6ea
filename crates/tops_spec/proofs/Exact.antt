-- The words hold the reachable tops, exactly (document 01, "Runs and reachable tops"; source 000, Sect. 2.2). Assumes nothing.
use mathlib.Core.Path.{◌≡◌, refl, sym, ap, ◌∙◌}
use mathlib.Core.Logic.{◌↔◌, ◌⊎◌, inl, inr}
use mathlib.Core.Bool.{Bool, true, false, true≢false}
use mathlib.Core.List.{List, ◌∷◌, ◌++◌, Memᴰ}
use mathlib.Core.Option.{Option, none, some}
use Prim.Native.Nat.{ℕ, zero, suc, ◌+◌, ◌-◌, ◌*◌, ◌%◌, ◌^◌, ◌<◌}
use native.Mathlib.Omega.{arith}
use native.Mathlib.Nat.{le_refl}
use native.Mathlib.Decide.{dec_lt}
use lib.ListN.{length, get_or, replicate, length-map, get_or-map, length-replicate, length-append}
use lib.Seq.{ext_get_or}
use lib.Dec.{eqb}
use borrow.Author.Tests.{eqb-true, eqb-false, eq-eqb, ne_eqb}
use Rattle.lists.specs.Lists.{filter, upto, same}
use Rattle.lists.specs.Bits.{Bit, has}
use Rattle.lists.proofs.Bits.{some-bit, no_bit, bit-own, bit-pow, has-true, has_of}
use Rattle.lists.proofs.Members.{upto_of, length-upto, same_true}
use Rattle.lists.proofs.Counts.{filter-le, filter-less, grid, length_grid, grid_of}
use Rattle.lists.proofs.Words.{new-bit, has_no, same_false, get_d_padded, bits_equal, word_lt}
use Rattle.vpa.specs.Automata.{Tops, Top, bottom, along, pushed, popped}
use Rattle.vpa.proofs.Tops.{tops_of_lem, top_of, top-state, top-named}
use Rattle.table_spec.specs.File.{Table}
use Rattle.table_spec.specs.Reading.{is_initial}
use Rattle.table_spec.specs.Language.{count, byte_of, automaton}
use Rattle.tops_spec.specs.Tops.{top_named, add, live, by_calls, by_returns, round, rounds, start_words, top_words_at}
use Rattle.tops_spec.proofs.Bounded.{Bounded, an_internal, a_call, a_return, lawful}
use Rattle.tops_spec.proofs.Walks.{InWords, below_refl, below_trans, add-bit, add-own, length-add, internal_step, call_step, return_step, walk, round-walk, internal-grows, call-grows, return-grows, internal-step, call_step_lem, return-step, walk-keeps, walk_longer, walk-wide, walk_at}

-- ---- the numbers of tops

-- the number of a top, where bottom has the number m
abbrev number : ℕ → Option ℕ → ℕ
number m none = m
number m (some s) = s

module _ (m : ℕ) where
  named-bottom : top_named m m ≡ none
  unfolding top_named
  named-bottom = rw (eq-eqb m m refl, top_named)

  named-state : {s : ℕ} → s < m → top_named m s ≡ some s
  unfolding top_named
  named-state {s} h = rw (ne_eqb s m (λ e. omega arith), top_named)

  number-named : (x : ℕ) → number m (top_named m x) ≡ x
  unfolding top_named
  number-named x = go (eqb x m) refl
    where
      go : (b : Bool) → eqb x m ≡ b → number m (elim b [ true ↦ none | false ↦ some x ]) ≡ x
      go true e = sym (eqb-true _ _ e)
      go false e = refl

-- what a test tells
told : {P : Type 0} {b : Bool} → (b ≡ true) ↔ P → (c : Bool) → b ≡ c → Dec P
told h true e = yes (h.0 e)
told h false e = no (λ p. true≢false (sym (h.1 p) ∙ e))

module _ {most : ℕ} {t : Table} (bounded : Bounded most t) where
  -- ---- what the rounds find is a top

  pub record Sound (f : List ℕ) : Type 0 where
    pub top : (q x : ℕ) → Bit (get_or f q 0) x → Top (automaton t) q (top_named most x)
    pub wide : length f ≡ count t

  sound_add : (f : List ℕ) (q w : ℕ) → Sound f → ((x : ℕ) → Bit w x → Top (automaton t) q (top_named most x)) → Sound (add f q w)
  sound_add f q w s h = record { top = λ p x b. go p x (add-bit f q w p x b); wide = length-add f q w ∙ s.wide }
    where
      go : (p x : ℕ) → Bit (get_or f p 0) x ⊎ ((p ≡ q) × Bit w x) → Top (automaton t) p (top_named most x)
      go p x (inl b) = s.top p x b
      go p x (inr (e, b)) = rw e (h x b)

  internal_sound : (r : List ℕ) → Memᴰ r t.internals → (f : List ℕ) → Sound f → Sound (internal_step r f)
  internal_sound r m f s = rw (internal-step r f) (sound_add f _ _ s (λ x b. along (an_internal bounded r m) (s.top _ x b)))

  call_sound : (r : List ℕ) → Memᴰ r t.calls → (f : List ℕ) → Sound f → Sound (call_step r f)
  unfolding call_step by_calls
  call_sound r m f s = go (eqb (get_or f (get_or r 0 0) 0) 0) refl
    where
      from : (x : ℕ) × Bit (get_or f (get_or r 0 0) 0) x → (y : ℕ) → Bit (2 ^ get_or r 0 0) y → Top (automaton t) (get_or r 2 0) (top_named most y)
      from (x, b) y c =
          let l : get_or r 0 0 < most = omega (arith, (bounded.calls r m).from, bounded.states) in
          rw (bit-pow (get_or r 0 0) y c, named-state most l) (pushed (a_call bounded r m) (s.top _ x b))

      go : (b : Bool) → eqb (get_or f (get_or r 0 0) 0) 0 ≡ b → Sound (elim b [ true ↦ f | false ↦ add f (get_or r 2 0) (2 ^ get_or r 0 0) ])
      go true e = s
      go false e = sound_add f _ _ s (from (some-bit (get_or f (get_or r 0 0) 0) (get_or f (get_or r 0 0) 0) (le_refl _) (eqb-false _ _ e)))

  return_sound : (r : List ℕ) → Memᴰ r t.returns → (f : List ℕ) → Sound f → Sound (return_step r f)
  unfolding return_step by_returns live
  return_sound r m f s = go (live f r) refl
    where
      go : (b : Bool) → live f r ≡ b → Sound (elim b [ true ↦ add f (get_or r 3 0) (get_or f (get_or r 2 0) 0) | false ↦ f ])
      go false e = s
      go true e =
          let l : get_or r 2 0 < most = omega (arith, (bounded.returns r m).under, bounded.states) in
          let k = s.top (get_or r 0 0) (get_or r 2 0) (has-true f _ _ e) in
          sound_add f _ _ s (λ x b. popped (a_return bounded r m) (rw (named-state most l) at k) (s.top _ x b))

  round_sound : (f : List ℕ) → Sound f → Sound (round t f)
  round_sound f s =
      rw (round-walk t f)
      (walk-keeps Sound return_step t.returns _ return_sound
      (walk-keeps Sound call_step t.calls _ call_sound
      (walk-keeps Sound internal_step t.internals f internal_sound s)))

  start-at : (q : ℕ) → get_or (start_words most t) q 0 ≡ elim (is_initial (byte_of t q)) [ true ↦ 2 ^ most | false ↦ 0 ]
  unfolding start_words is_initial
  start-at q = get_or-map {B = ℕ} (λ byte. elim (is_initial byte) [ true ↦ 2 ^ most | false ↦ 0 ]) t.states q 0

  pub start_sound : Sound (start_words most t)
  unfolding start_words is_initial
  start_sound = record { top = λ q x b. go q x (is_initial (byte_of t q)) refl (rw (start-at q) at b); wide = length-map t.states _ }
    where
      go : (q x : ℕ) (b : Bool) → is_initial (byte_of t q) ≡ b → Bit (elim b [ true ↦ 2 ^ most | false ↦ 0 ]) x → Top (automaton t) q (top_named most x)
      go q x true e b = rw (bit-pow most x b, named-bottom most) (bottom (eqb-true _ _ e))
      go q x false e b = absurd (no_bit x b)

  -- ---- a round that changes nothing is reached

  cells : List (ℕ × ℕ)
  cells = grid (upto (count t)) (most ∷ upto (count t))

  named : (q x : ℕ) → Top (automaton t) q (top_named most x) → (x ≡ most) ⊎ (x < count t)
  unfolding top_named
  named q x h = go (eqb x most) refl h
    where
      go : (b : Bool) → eqb x most ≡ b → Top (automaton t) q (elim b [ true ↦ none | false ↦ some x ]) → (x ≡ most) ⊎ (x < count t)
      go true e k = inl (eqb-true _ _ e)
      go false e k = inr (top-named (automaton t) (lawful bounded) k)

  place : (q x : ℕ) → Top (automaton t) q (top_named most x) → Memᴰ (q, x) cells
  unfolding cells
  place q x h = grid_of _ _ q x (upto_of (count t) q (top-state (automaton t) (lawful bounded) h)) (go (named q x h))
    where
      go : (x ≡ most) ⊎ (x < count t) → Memᴰ x (most ∷ upto (count t))
      go (inl e) = Memᴰ.head e
      go (inr l) = Memᴰ.tail (upto_of (count t) x l)

  -- how many bits are set
  bits : List ℕ → ℕ
  bits f = length (filter (λ c. has f c.0 c.1) cells)

  round_longer : (f : List ℕ) → InWords f (round t f)
  round_longer f =
      rw (round-walk t f)
      (below_trans (walk_longer internal_step internal-grows t.internals f)
      (below_trans (walk_longer call_step call-grows t.calls _) (walk_longer return_step return-grows t.returns _)))

  round-more : (f : List ℕ) → Sound f → same (round t f) f ≡ false → bits f < bits (round t f)
  unfolding bits
  round-more f s e =
      let g = round_sound f s in
      let d = same_false (round t f) f (g.wide ∙ sym s.wide) e in
      let n = new-bit (get_or (round t f) d.0 0) (get_or f d.0 0) (get_or (round t f) d.0 0) (le_refl _) ((round_longer f).keeps d.0) (λ e. d.1 (sym e)) in
      filter-less (λ c. has f c.0 c.1) (λ c. has (round t f) c.0 c.1) cells (λ c m h. has_of (round t f) c.0 c.1 ((round_longer f).keeps c.0 c.1 (has-true f c.0 c.1 h))) (d.0, n.0) (place d.0 n.0 (g.top d.0 n.0 n.1)) (has_no f _ _ n.2) (has_of (round t f) _ _ n.1)

  record Settled (f g : List ℕ) : Type 0 where
    sound : Sound g
    longer : InWords f g
    fixed : round t g ≡ g

  settled : (k : ℕ) (f : List ℕ) → Sound f → length cells < bits f + k → Settled f (rounds k t f)
  unfolding rounds bits
  settled zero f s h = absurd (omega (arith, filter-le (λ c. has f c.0 c.1) cells))
  settled (suc k) f s h = go (same (round t f) f) refl (λ l. settled k (round t f) (round_sound f s) l)
    where
      go : (b : Bool) → same (round t f) f ≡ b → (length cells < bits (round t f) + k → Settled (round t f) (rounds k t (round t f))) → Settled f (elim b [ true ↦ f | false ↦ rounds k t (round t f) ])
      go true e r = record { sound = s; longer = below_refl f; fixed = same_true _ _ e }
      go false e r =
          let l = r (omega (arith, round-more f s e)) in
          record { sound = l.sound; longer = below_trans (round_longer f) l.longer; fixed = l.fixed }

  -- ---- and holds every top

  module _ (g : List ℕ) (sound : Sound g) (fixed : round t g ≡ g) where
    -- the words after the internals, and after the calls
    abbrev first : List ℕ
    first = walk internal_step t.internals g

    abbrev second : List ℕ
    second = walk call_step t.calls first

    last : InWords second g
    last = rw (sym (round-walk t g) ∙ fixed) at (walk_longer return_step return-grows t.returns second)

    middle : InWords first g
    middle = below_trans (walk_longer call_step call-grows t.calls first) last

    internal-closed : (r : List ℕ) → Memᴰ r t.internals → (x : ℕ) → Bit (get_or g (get_or r 0 0) 0) x → Bit (get_or g (get_or r 2 0) 0) x
    internal-closed r m x b =
        let k = walk_at internal_step internal-grows t.internals g r m in
        let l : get_or r 2 0 < length k.0 = omega (arith, k.2, sound.wide, (bounded.internals r m).to) in
        middle.keeps _ x (k.3.keeps (get_or r 2 0) x (rw (internal-step r k.0) (add-own k.0 _ _ x l (k.1.keeps _ x b))))

    call-closed : (r : List ℕ) → Memᴰ r t.calls → (x : ℕ) → Bit (get_or g (get_or r 0 0) 0) x → Bit (get_or g (get_or r 2 0) 0) (get_or r 0 0)
    call-closed r m x b =
        let k = walk_at call_step call-grows t.calls first r m in
        let n = k.1.keeps _ x ((walk_longer internal_step internal-grows t.internals g).keeps _ x b) in
        let l : get_or r 2 0 < length k.0 = omega (arith, k.2, walk-wide internal_step internal-grows t.internals g, sound.wide, (bounded.calls r m).to) in
        last.keeps _ _ (k.3.keeps _ _ (rw (call_step_lem r k.0 x n) (add-own k.0 _ _ _ l (bit-own (get_or r 0 0)))))

    return-closed : (r : List ℕ) → Memᴰ r t.returns → (x : ℕ) → Bit (get_or g (get_or r 0 0) 0) (get_or r 2 0) → Bit (get_or g (get_or r 2 0) 0) x → Bit (get_or g (get_or r 3 0) 0) x
    return-closed r m x b c =
        let k = walk_at return_step return-grows t.returns second r m in
        let j = below_trans (walk_longer internal_step internal-grows t.internals g) (below_trans (walk_longer call_step call-grows t.calls first) k.1) in
        let l : get_or r 3 0 < length k.0 = omega (arith, k.2, walk-wide call_step call-grows t.calls first, walk-wide internal_step internal-grows t.internals g, sound.wide, (bounded.returns r m).to) in
        let h = k.3.keeps (get_or r 3 0) x (rw (return-step r k.0 (j.keeps _ _ b)) (add-own k.0 _ _ x l (j.keeps _ x c))) in
        rw (sym (round-walk t g) ∙ fixed) at h

    module _ (started : InWords (start_words most t) g) where
      bottom-found : (q : ℕ) → byte_of t q % 2 ≡ 1 → Bit (get_or g q 0) most
      unfolding is_initial
      bottom-found q i =
          let e : is_initial (byte_of t q) ≡ true = eq-eqb _ _ i in
          started.keeps q most (rw (start-at q, e) (bit-own most))

      complete : {q : ℕ} {o : Option ℕ} → Top (automaton t) q o → Bit (get_or g q 0) (number most o)
      complete (bottom i) = bottom-found _ i
      complete (along r h) = internal-closed _ r _ (complete h)
      complete (pushed r h) = call-closed _ r _ (complete h)
      complete (popped r h k) = return-closed _ r _ (complete h) (complete k)

  -- ---- the words

  abbrev rounded : List ℕ
  rounded = rounds (suc (count t * suc (count t))) t (start_words most t)

  rested : Settled (start_words most t) rounded
  unfolding cells
  rested =
      let e : length cells ≡ count t * suc (count t) = length_grid (upto (count t)) (most ∷ upto (count t)) ∙ ap (λ n. n * suc n) (length-upto (count t)) in
      settled _ _ start_sound (omega arith)

  -- from any words that hold tops only, and those at the start, the rounds come to the same rest
  pub rounds-alike : (f : List ℕ) → Sound f → InWords (start_words most t) f → rounds (suc (count t * suc (count t))) t f ≡ rounded
  unfolding cells
  rounds-alike f s b =
      let e : length cells ≡ count t * suc (count t) = length_grid (upto (count t)) (most ∷ upto (count t)) ∙ ap (λ n. n * suc n) (length-upto (count t)) in
      let k = settled (suc (count t * suc (count t))) f s (omega arith) in
      let g = rounds (suc (count t * suc (count t))) t f in
      ext_get_or 0 g rounded (k.sound.wide ∙ sym rested.sound.wide)
      (λ q l. bits_equal (get_or g q 0) (get_or rounded q 0)
      (λ x h. rw (number-named most x) at (complete rounded rested.sound rested.fixed rested.longer (k.sound.top q x h)))
      (λ x h. rw (number-named most x) at (complete g k.sound k.fixed (below_trans b k.longer) (rested.sound.top q x h))))

  words-at : (q : ℕ) → get_or (top_words_at most t) q 0 ≡ get_or rounded q 0
  unfolding top_words_at
  words-at q = get_d_padded rounded (most - count t) q

  -- the states' words, and zeros after them
  pub record Padded : Type 0 where
    pub states : List ℕ
    pub long : length states ≡ count t
    pub words : top_words_at most t ≡ states ++ replicate (most - count t) 0

  pub padded : Padded
  unfolding top_words_at
  padded = record { states = rounded; long = rested.sound.wide; words = refl }

  pub length-words : length (top_words_at most t) ≡ most
  unfolding top_words_at
  length-words = omega (arith, length-append rounded (replicate (most - count t) 0), length-replicate {A = ℕ} (most - count t) 0, rested.sound.wide, bounded.states)

  -- bit x of word q is 1 exactly where some reachable configuration has state q and x topmost
  pub top_bit : (q x : ℕ) → Bit (get_or (top_words_at most t) q 0) x ↔ Tops (automaton t) q (top_named most x)
  top_bit q x = (
    λ b. tops_of_lem (automaton t) (rested.sound.top q x (rw (words-at q) at b)),
    λ h. rw (words-at q) (rw (number-named most x) at (complete rounded rested.sound rested.fixed rested.longer (top_of (automaton t) h))),
  )

  -- the same of the test
  pub top-has : (q x : ℕ) → (has (top_words_at most t) q x ≡ true) ↔ Tops (automaton t) q (top_named most x)
  top-has q x = (λ e. (top_bit q x).0 (has-true (top_words_at most t) q x e), λ h. has_of (top_words_at most t) q x ((top_bit q x).1 h))

  -- a state s, and bottom
  pub top-state-has : {s : ℕ} (q : ℕ) → s < most → (has (top_words_at most t) q s ≡ true) ↔ Tops (automaton t) q (some s)
  top-state-has {s} q l = rw (named-state most l) at (top-has q s)

  pub bottom-has : (q : ℕ) → (has (top_words_at most t) q most ≡ true) ↔ Tops (automaton t) q none
  bottom-has q = rw (named-bottom most) at (top-has q most)

  -- only the words of states have bits, and none past bottom
  pub bit-within : (q x : ℕ) → Bit (get_or (top_words_at most t) q 0) x → (q < count t) × (x < suc most)
  bit-within q x b = (top-state (automaton t) (lawful bounded) top, go (named q x top))
    where
      top : Top (automaton t) q (top_named most x)
      top = top_of (automaton t) ((top_bit q x).0 b)

      go : (x ≡ most) ⊎ (x < count t) → x < suc most
      go (inl e) = omega arith
      go (inr l) = omega (arith, bounded.states)

  pub word-within : (q : ℕ) → get_or (top_words_at most t) q 0 < 2 ^ suc most
  word-within q = word_lt (suc most) (get_or (top_words_at most t) q 0) (λ x b. (bit-within q x b).1)

  -- which tops are reachable can be told
  pub tops? : (q : ℕ) (o : Option ℕ) → Dec (Tops (automaton t) q o)
  tops? q none = told (bottom-has q) (has (top_words_at most t) q most) refl
  tops? q (some s) = go (dec_lt s most)
    where
      go : Dec (s < most) → Dec (Tops (automaton t) q (some s))
      go (yes l) = told (top-state-has q l) (has (top_words_at most t) q s) refl
      go (no n) = no (λ h. n (omega (arith, top-named (automaton t) (lawful bounded) (top_of (automaton t) h), bounded.states)))

  -- "A return record is live when its stack state is in tops of its state"
  pub live-exact : (r : List ℕ) → Memᴰ r t.returns → (live (top_words_at most t) r ≡ true) ↔ Tops (automaton t) (get_or r 0 0) (some (get_or r 2 0))
  unfolding live
  live-exact r m = top-state-has (get_or r 0 0) (omega (arith, (bounded.returns r m).under, bounded.states))
