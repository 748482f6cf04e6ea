-- The table of pairs pairs the automata of the two tables. Assumes nothing.
use mathlib.Core.Path.{◌≡◌, refl, sym, ap, ◌∙◌, subst}
use mathlib.Core.Logic.{◌↔◌}
use mathlib.Core.Bool.{Bool, true, false, ◌&&◌, not, true≢false}
use mathlib.Core.List.Memᴰ.{not-nil}
use mathlib.Core.List.{List, [], ◌∷◌, ◌++◌, map, Memᴰ}
use Prim.Native.Nat.{ℕ, suc, ◌+◌, ◌-◌, ◌*◌, ◌/◌, ◌%◌, ◌<◌}
use native.Mathlib.Omega.{arith}
use native.Mathlib.Decide.{dec_lt}
use lib.ListN.{length, get_or, length-map, get_or-eq_default}
use borrow.Author.Tests.{eqb-true, eqb-false, eq-eqb, ne_eqb}
use Rattle.lists.specs.Lists.{concat_map, upto}
use Rattle.lists.proofs.Members.{get_d_map, get_d_upto, length-upto, upto_of, upto-mem, concat_map-mem, concat_map_of, and-true, and_of}
use Rattle.table_spec.specs.File.{Table}
use Rattle.table_spec.specs.Reading.{is_initial, is_accepting}
use Rattle.table_spec.specs.Language.{count, byte_of, targets, automaton}
use Rattle.table_spec.proofs.Facts.{targets-mem, mem-targets, three_bytes, four_bytes}
use Rattle.tops_spec.proofs.Bounded.{Moves, Pops, Bounded, lawful}
use Rattle.quotient_spec.specs.Quotient.{bit_of}
use Rattle.fit_spec.specs.Fit.{pair_of, first_of, second_of, after, pair_move, pair_moves, pair_return, pair_returns, pair_byte, pair_table, pair_count}
use Rattle.fit_spec.proofs.Numbers.{pair-first, pair-second, pair-whole, second_below, pair-below}
use Rattle.fit_spec.proofs.Pairing.{Dead, After, moved, stuck, Paired}

-- ---- the target, or the sink

module _ (ss : List (List ℕ)) (n : ℕ) (key : List ℕ) (wide : (r : List ℕ) → Memᴰ r ss → length r ≡ suc (length key)) where
  pub after_says : After n (λ x. Memᴰ (key ++ (x ∷ [])) ss) (after ss n key)
  unfolding after
  after_says = go (targets ss key) refl
    where
      go : (xs : List ℕ) → targets ss key ≡ xs → After n (λ x. Memᴰ (key ++ (x ∷ [])) ss) (get_or xs 0 n)
      go [] e = stuck (λ x m. not-nil (subst (λ ys. Memᴰ x ys) e (mem-targets ss key x m))) refl
      go (x ∷ xs) e = moved (targets-mem ss key wide x (subst (λ ys. Memᴰ x ys) (sym e) (mathlib.Core.List.Memᴰ.head refl)))

after-below : {n x : ℕ} {f : ℕ → Type 0} → After n f x → ((y : ℕ) → f y → y < n) → x < suc n
after-below (moved m) h = let l = h _ m in omega arith
after-below (stuck k e) h = omega arith

-- the two tables' records of one section: of w bytes, the second's with targets below n
pub record Sides (w n : ℕ) (rs ss : List (List ℕ)) : Type 0 where
  pub first-wide : (r : List ℕ) → Memᴰ r rs → length r ≡ w
  pub second-wide : (r : List ℕ) → Memᴰ r ss → length r ≡ w
  pub below : (r : List ℕ) → Memᴰ r ss → get_or r (w - 1) 0 < n

-- ---- the moves of pairs

module _ {n : ℕ} {rs ss : List (List ℕ)} (sides : Sides 3 n rs ss) where
  abbrev next : ℕ → ℕ → ℕ
  next b a = after ss n (b ∷ a ∷ [])

  next_says : (b a : ℕ) → After n (λ x. Memᴰ (b ∷ a ∷ x ∷ []) ss) (next b a)
  next_says b a = after_says ss n (b ∷ a ∷ []) sides.second-wide

  next-below : (b a : ℕ) → next b a < suc n
  next-below b a = after-below (next_says b a) (λ x m. sides.below _ m)

  pub record MoveOf (u a v : ℕ) : Type 0 where
    pub move : Memᴰ (first_of n u ∷ a ∷ first_of n v ∷ []) rs
    pub goes : second_of n v ≡ next (second_of n u) a

  pub moves-mem : (u a v : ℕ) → Memᴰ (u ∷ a ∷ v ∷ []) (pair_moves n rs ss) → MoveOf u a v
  unfolding pair_moves pair_move
  moves-mem u a v m =
      let g = concat_map-mem (λ r. map (pair_move n ss r) (upto (suc n))) rs _ m in
      let k = mathlib.Core.List.Memᴰ.of_map (pair_move n ss g.0) (upto (suc n)) g.2 in
      go g.0 k.0 g.1 (upto-mem (suc n) k.0 k.1) k.2
    where
      go : (r : List ℕ) (b : ℕ) → Memᴰ r rs → b < suc n → pair_move n ss r b ≡ u ∷ a ∷ v ∷ [] → MoveOf u a v
      go r b m l e =
          let p = get_or r 0 0 in
          let q = get_or r 2 0 in
          let eu : pair_of n p b ≡ u = cc in
          let ea : get_or r 1 0 ≡ a = cc in
          let ev : pair_of n q (next b (get_or r 1 0)) ≡ v = cc in
          let l' = next-below b (get_or r 1 0) in
          let fu : p ≡ first_of n u = sym (pair-first n p l) ∙ ap (first_of n) eu in
          let su : b ≡ second_of n u = sym (pair-second n p l) ∙ ap (second_of n) eu in
          let fv : q ≡ first_of n v = sym (pair-first n q l') ∙ ap (first_of n) ev in
          let sv : next b (get_or r 1 0) ≡ second_of n v = sym (pair-second n q l') ∙ ap (second_of n) ev in
          record {
            move = mathlib.Core.List.Memᴰ.cast (λ i. sym fu i ∷ sym ea i ∷ sym fv i ∷ []) (mathlib.Core.List.Memᴰ.cast (sym (three_bytes r (sides.first-wide r m))) m);
            goes = sym sv ∙ (λ i. next (su i) (ea i));
          }

  pub moves_on : (u a q : ℕ) → Memᴰ (first_of n u ∷ a ∷ q ∷ []) rs → (v : ℕ) × Memᴰ (u ∷ a ∷ v ∷ []) (pair_moves n rs ss) × (first_of n v ≡ q)
  unfolding pair_moves pair_move
  moves_on u a q m =
      let b = second_of n u in
      let v = pair_of n q (next b a) in
      let k : Memᴰ (pair_of n (first_of n u) b ∷ a ∷ v ∷ []) (map (pair_move n ss (first_of n u ∷ a ∷ q ∷ [])) (upto (suc n))) = mathlib.Core.List.Memᴰ.map (pair_move n ss (first_of n u ∷ a ∷ q ∷ [])) (upto_of (suc n) b (second_below n u)) in
      let g = concat_map_of (λ r. map (pair_move n ss r) (upto (suc n))) rs _ _ m k in
      (v, mathlib.Core.List.Memᴰ.cast (λ i. sym (pair-whole n u) i ∷ a ∷ v ∷ []) g, pair-first n q (next-below b a))

  pub moves_of : (r : List ℕ) (b : ℕ) → Memᴰ r rs → b < suc n → Memᴰ (pair_move n ss r b) (pair_moves n rs ss)
  unfolding pair_moves
  moves_of r b m l = concat_map_of (λ r. map (pair_move n ss r) (upto (suc n))) rs r _ m (mathlib.Core.List.Memᴰ.map (pair_move n ss r) (upto_of (suc n) b l))

  -- widths and bounds
  pub moves_bounded : {k : ℕ} → ((r : List ℕ) → Memᴰ r rs → Moves k r) → (r : List ℕ) → Memᴰ r (pair_moves n rs ss) → Moves (k * suc n) r
  unfolding pair_moves pair_move
  moves_bounded {k} h r m =
      let g = concat_map-mem (λ r. map (pair_move n ss r) (upto (suc n))) rs _ m in
      let j = mathlib.Core.List.Memᴰ.of_map (pair_move n ss g.0) (upto (suc n)) g.2 in
      subst (Moves (k * suc n)) j.2 record {
        wide = refl;
        from = pair-below n (h g.0 g.1).from (upto-mem (suc n) j.0 j.1);
        to = pair-below n (h g.0 g.1).to (next-below j.0 (get_or g.0 1 0));
      }

-- ---- the returns of pairs

module _ {n : ℕ} {rs ss : List (List ℕ)} (sides : Sides 4 n rs ss) where
  abbrev back : ℕ → ℕ → ℕ → ℕ
  back b a c = after ss n (b ∷ a ∷ c ∷ [])

  back_says : (b a c : ℕ) → After n (λ x. Memᴰ (b ∷ a ∷ c ∷ x ∷ []) ss) (back b a c)
  back_says b a c = after_says ss n (b ∷ a ∷ c ∷ []) sides.second-wide

  back_below : (b a c : ℕ) → back b a c < suc n
  back_below b a c = after-below (back_says b a c) (λ x m. sides.below _ m)

  pub record ReturnOf (u a s v : ℕ) : Type 0 where
    pub move : Memᴰ (first_of n u ∷ a ∷ first_of n s ∷ first_of n v ∷ []) rs
    pub goes : second_of n v ≡ back (second_of n u) a (second_of n s)

  -- the pair of each record
  record From (r : List ℕ) : Type 0 where
    source : List ℕ
    state : ℕ
    popped : ℕ
    there : Memᴰ source rs
    state-below : state < suc n
    popped-below : popped < suc n
    is : pair_return n ss source state popped ≡ r

  from : (r : List ℕ) → Memᴰ r (pair_returns n rs ss) → From r
  unfolding pair_returns
  from r m =
      let g = concat_map-mem (λ r. concat_map (λ b. map (pair_return n ss r b) (upto (suc n))) (upto (suc n))) rs _ m in
      let h = concat_map-mem (λ b. map (pair_return n ss g.0 b) (upto (suc n))) (upto (suc n)) _ g.2 in
      let k = mathlib.Core.List.Memᴰ.of_map (pair_return n ss g.0 h.0) (upto (suc n)) h.2 in
      record { source = g.0; state = h.0; popped = k.0; there = g.1; state-below = upto-mem (suc n) h.0 h.1; popped-below = upto-mem (suc n) k.0 k.1; is = k.2 }

  pub returns-mem : (u a s v : ℕ) → Memᴰ (u ∷ a ∷ s ∷ v ∷ []) (pair_returns n rs ss) → ReturnOf u a s v
  unfolding pair_return
  returns-mem u a s v m = let f = from _ m in go f.source f.state f.popped f.there f.state-below f.popped-below f.is
    where
      go : (r : List ℕ) (b c : ℕ) → Memᴰ r rs → b < suc n → c < suc n → pair_return n ss r b c ≡ u ∷ a ∷ s ∷ v ∷ [] → ReturnOf u a s v
      go r b c m l k e =
          let p = get_or r 0 0 in
          let t = get_or r 2 0 in
          let q = get_or r 3 0 in
          let eu : pair_of n p b ≡ u = cc in
          let ea : get_or r 1 0 ≡ a = cc in
          let es : pair_of n t c ≡ s = cc in
          let ev : pair_of n q (back b (get_or r 1 0) c) ≡ v = cc in
          let l' = back_below b (get_or r 1 0) c in
          let fu : p ≡ first_of n u = sym (pair-first n p l) ∙ ap (first_of n) eu in
          let su : b ≡ second_of n u = sym (pair-second n p l) ∙ ap (second_of n) eu in
          let fs : t ≡ first_of n s = sym (pair-first n t k) ∙ ap (first_of n) es in
          let ss' : c ≡ second_of n s = sym (pair-second n t k) ∙ ap (second_of n) es in
          let fv : q ≡ first_of n v = sym (pair-first n q l') ∙ ap (first_of n) ev in
          let sv : back b (get_or r 1 0) c ≡ second_of n v = sym (pair-second n q l') ∙ ap (second_of n) ev in
          record {
            move = mathlib.Core.List.Memᴰ.cast (λ i. sym fu i ∷ sym ea i ∷ sym fs i ∷ sym fv i ∷ []) (mathlib.Core.List.Memᴰ.cast (sym (four_bytes r (sides.first-wide r m))) m);
            goes = sym sv ∙ (λ i. back (su i) (ea i) (ss' i));
          }

  pub returns_on : (u a s q : ℕ) → Memᴰ (first_of n u ∷ a ∷ first_of n s ∷ q ∷ []) rs → (v : ℕ) × Memᴰ (u ∷ a ∷ s ∷ v ∷ []) (pair_returns n rs ss) × (first_of n v ≡ q)
  unfolding pair_returns pair_return
  returns_on u a s q m =
      let b = second_of n u in
      let c = second_of n s in
      let v = pair_of n q (back b a c) in
      let r = first_of n u ∷ a ∷ first_of n s ∷ q ∷ [] in
      let k : Memᴰ (pair_of n (first_of n u) b ∷ a ∷ pair_of n (first_of n s) c ∷ v ∷ []) (map (pair_return n ss r b) (upto (suc n))) = mathlib.Core.List.Memᴰ.map (pair_return n ss r b) (upto_of (suc n) c (second_below n s)) in
      let h = concat_map_of (λ b. map (pair_return n ss r b) (upto (suc n))) (upto (suc n)) b _ (upto_of (suc n) b (second_below n u)) k in
      let g = concat_map_of (λ r. concat_map (λ b. map (pair_return n ss r b) (upto (suc n))) (upto (suc n))) rs r _ m h in
      (v, mathlib.Core.List.Memᴰ.cast (λ i. sym (pair-whole n u) i ∷ a ∷ sym (pair-whole n s) i ∷ v ∷ []) g, pair-first n q (back_below b a c))

  pub returns_of : (r : List ℕ) (b c : ℕ) → Memᴰ r rs → b < suc n → c < suc n → Memᴰ (pair_return n ss r b c) (pair_returns n rs ss)
  unfolding pair_returns
  returns_of r b c m l k =
      concat_map_of (λ r. concat_map (λ b. map (pair_return n ss r b) (upto (suc n))) (upto (suc n))) rs r _ m
      (concat_map_of (λ b. map (pair_return n ss r b) (upto (suc n))) (upto (suc n)) b _ (upto_of (suc n) b l) (mathlib.Core.List.Memᴰ.map (pair_return n ss r b) (upto_of (suc n) c k)))

  pub returns_bounded : {k : ℕ} → ((r : List ℕ) → Memᴰ r rs → Pops k r) → (r : List ℕ) → Memᴰ r (pair_returns n rs ss) → Pops (k * suc n) r
  unfolding pair_return
  returns_bounded {k} h r m =
      let f = from r m in
      let j = h f.source f.there in
      subst (Pops (k * suc n)) f.is record {
        wide = refl;
        from = pair-below n j.from f.state-below;
        under = pair-below n j.under f.popped-below;
        to = pair-below n j.to (back_below f.state (get_or f.source 1 0) f.popped);
      }

-- ---- the bytes of pairs

bits : (x y : Bool) → ((bit_of x + 2 * bit_of y) % 2 ≡ 1 → x ≡ true) × (x ≡ true → (bit_of x + 2 * bit_of y) % 2 ≡ 1)
unfolding bit_of
bits true y = (λ e. refl, λ e. omega arith)
bits false y = (λ e. absurd (omega arith), λ e. absurd (true≢false (sym e)))

bits' : (x y : Bool) → ((bit_of x + 2 * bit_of y) / 2 % 2 ≡ 1 → y ≡ true) × (y ≡ true → (bit_of x + 2 * bit_of y) / 2 % 2 ≡ 1)
unfolding bit_of
bits' true true = (λ e. refl, λ e. refl)
bits' false true = (λ e. refl, λ e. refl)
bits' true false = (λ e. absurd (omega arith), λ e. absurd (true≢false (sym e)))
bits' false false = (λ e. absurd (omega arith), λ e. absurd (true≢false (sym e)))

pub byte_initial : (x y : ℕ) → pair_byte x y % 2 ≡ 1 ↔ ((x % 2 ≡ 1) × (y % 2 ≡ 1))
unfolding pair_byte is_initial
byte_initial x y = (
  λ e. let k = and-true _ _ ((bits (is_initial x && is_initial y) _).0 e) in (eqb-true _ _ k.0, eqb-true _ _ k.1),
  λ h. (bits (is_initial x && is_initial y) _).1 (and_of (eq-eqb _ _ h.0) (eq-eqb _ _ h.1)),
)

not-true : (b : Bool) → not b ≡ true → b ≡ false
not-true true e = absurd (true≢false (sym e))
not-true false e = refl

pub byte_accepting : (x y : ℕ) → pair_byte x y / 2 % 2 ≡ 1 ↔ ((x / 2 % 2 ≡ 1) × ¬ (y / 2 % 2 ≡ 1))
unfolding pair_byte is_accepting
byte_accepting x y = (
  λ e. let k = and-true _ _ ((bits' _ (is_accepting x && not (is_accepting y))).0 e) in (eqb-true _ _ k.0, eqb-false _ _ (not-true (is_accepting y) k.1)),
  λ h. (bits' _ (is_accepting x && not (is_accepting y))).1 (and_of (eq-eqb _ _ h.0) (ap not (ne_eqb _ _ h.1))),
)

-- ---- the table

module _ (s t : Table) where
  abbrev n : ℕ
  n = count t

  pub count-pairs : count (pair_table s t) ≡ count s * suc n
  unfolding pair_table
  count-pairs = length-map (upto (count s * suc n)) _ ∙ length-upto (count s * suc n)

  pub byte_pairs : {u : ℕ} → u < count s * suc n → byte_of (pair_table s t) u ≡ pair_byte (byte_of s (first_of n u)) (byte_of t (second_of n u))
  unfolding pair_table
  byte_pairs {u} l =
      get_d_map (λ u. pair_byte (byte_of s (first_of n u)) (byte_of t (second_of n u))) (upto (count s * suc n)) u 0 0 (omega (arith, length-upto (count s * suc n)))
      ∙ ap (λ v. pair_byte (byte_of s (first_of n v)) (byte_of t (second_of n v))) (get_d_upto (count s * suc n) u 0 l)

  there : {u : ℕ} → (byte_of (pair_table s t) u ≡ 0 → ⊥) → u < count s * suc n
  there {u} h = go (dec_lt u (count s * suc n))
    where
      go : Dec (u < count s * suc n) → u < count s * suc n
      go (yes l) = l
      go (no l) = absurd (h (get_or-eq_default (pair_table s t).states 0 (omega (arith, count-pairs))))

  module _ {m : ℕ} (bs : Bounded m s) (bt : Bounded m t) where
    pub internals_sides : Sides 3 n s.internals t.internals
    internals_sides = record { first-wide = λ r m. (bs.internals r m).wide; second-wide = λ r m. (bt.internals r m).wide; below = λ r m. (bt.internals r m).to }

    pub calls_sides : Sides 3 n s.calls t.calls
    calls_sides = record { first-wide = λ r m. (bs.calls r m).wide; second-wide = λ r m. (bt.calls r m).wide; below = λ r m. (bt.calls r m).to }

    pub returns_sides : Sides 4 n s.returns t.returns
    returns_sides = record { first-wide = λ r m. (bs.returns r m).wide; second-wide = λ r m. (bt.returns r m).wide; below = λ r m. (bt.returns r m).to }

    pub pairs_bounded : Bounded (pair_count s t) (pair_table s t)
    unfolding pair_table
    pairs_bounded = record {
      states = omega (arith, count-pairs);
      internals = λ r m. subst (λ k. Moves k r) (sym count-pairs) (moves_bounded internals_sides bs.internals r m);
      calls = λ r m. subst (λ k. Moves k r) (sym count-pairs) (moves_bounded calls_sides bs.calls r m);
      returns = λ r m. subst (λ k. Pops k r) (sym count-pairs) (returns_bounded returns_sides bs.returns r m);
    }

    -- the number past the states is dead
    pub sink_dead : Dead (automaton t) n
    sink_dead = record {
      accepting = λ e. let l = (lawful bt).finally {q = n} e in absurd (omega arith);
      internals = λ m. let l = ((lawful bt).internals m).0 in absurd (omega arith);
      calls = λ m. let l = ((lawful bt).calls m).0 in absurd (omega arith);
      returns = λ m. let l = ((lawful bt).returns m).0 in absurd (omega arith);
    }

    pub pairs-accepting : (u : ℕ) → (automaton (pair_table s t)).accepting u ↔ ((automaton s).accepting (first_of n u) × ¬ (automaton t).accepting (second_of n u))
    pairs-accepting u = (
      λ e. (byte_accepting _ _).0 (subst (λ x. x / 2 % 2 ≡ 1) (byte_pairs (there {u = u} (λ z. absurd (omega arith)))) e),
      λ h. subst (λ x. x / 2 % 2 ≡ 1) (sym (byte_pairs (whole ((lawful bs).finally {q = first_of n u} h.0)))) ((byte_accepting _ _).1 h),
    )
      where
        whole : {u : ℕ} → first_of n u < count s → u < count s * suc n
        whole {u} l = subst (λ v. v < count s * suc n) (pair-whole n u) (pair-below n l (second_below n u))

    pub pairs-initial : (p b : ℕ) → (automaton s).initial p → (automaton t).initial b → (automaton (pair_table s t)).initial (pair_of n p b)
    pairs-initial p b i j =
        let l : b < suc n = omega (arith, (lawful bt).initially j) in
        let x : pair_byte (byte_of s (first_of n (pair_of n p b))) (byte_of t (second_of n (pair_of n p b))) % 2 ≡ 1 = (byte_initial _ _).1 (subst (λ q. byte_of s q % 2 ≡ 1) (sym (pair-first n p l)) i, subst (λ q. byte_of t q % 2 ≡ 1) (sym (pair-second n p l)) j) in
        subst (λ y. y % 2 ≡ 1) (sym (byte_pairs (pair-below n ((lawful bs).initially i) l))) x

    pub initial-pairs : (u : ℕ) → (automaton (pair_table s t)).initial u → (automaton s).initial (first_of n u) × (automaton t).initial (second_of n u)
    initial-pairs u e = (byte_initial _ _).0 (subst (λ x. x % 2 ≡ 1) (byte_pairs (there {u = u} (λ z. absurd (omega arith)))) e)

    module _ (b : ℕ) (initial : (automaton t).initial b) where
      pub pairs_paired : Paired (automaton s) (automaton t) (automaton (pair_table s t)) (first_of n) (second_of n) n
      unfolding pair_table
      pairs_paired = record {
        starts = λ {p} i. (pair_of n p b, pairs-initial p b i initial, pair-first n p (omega (arith, (lawful bt).initially initial)));
        initially = λ {u} e. initial-pairs u e;
        internals = λ {u} {v} {a} m. let k = moves-mem internals_sides u a v m in
            (k.move, subst (After n ((automaton t).internal (second_of n u) a)) (sym k.goes) (next_says internals_sides (second_of n u) a));
        calls = λ {u} {v} {a} m. let k = moves-mem calls_sides u a v m in
            (k.move, subst (After n ((automaton t).call (second_of n u) a)) (sym k.goes) (next_says calls_sides (second_of n u) a));
        returns = λ {u} {s = x} {v} {a} m. let k = returns-mem returns_sides u a x v m in
            (k.move, subst (After n ((automaton t).return (second_of n u) a (second_of n x))) (sym k.goes) (back_says returns_sides (second_of n u) a (second_of n x)));
        internals_on = λ {u} {q} {a} m. moves_on internals_sides u a q m;
        calls_on = λ {u} {q} {a} m. moves_on calls_sides u a q m;
        returns_on = λ {u} {s = x} {q} {a} m. returns_on returns_sides u a x q m;
      }
