-- Laws for the loop that sets the pairs of one state with those of a word, and for such a loop after another. Assumes nothing.
use mathlib.Core.Path.{◌≡◌, sym, ap, ◌∙◌, subst}
use mathlib.Core.Logic.{◌⊎◌, inl, inr, ◌≢◌}
use mathlib.Core.Bool.{Bool, true, false, true≢false}
use mathlib.Core.List.{List}
use Prim.Native.Nat.{ℕ, ◌-◌, ◌^◌, ◌≤◌, ◌<◌}
use native.Mathlib.Omega.{arith}
use native.Mathlib.Decide.{ℕ_discrete}
use lib.ListN.{length, get_or, set}
use lib.Pow.{pow_pos}
use lib.Seq.{get_or-set_same}
use lib.Count.{count_trailing_zeros}
use Rattle.lists.specs.Bits.{Bit}
use Rattle.lists.proofs.Bits.{no_bit}
use Rattle.lists.proofs.Lowest.{LowestBit, trailing_lowest, bit_le, clear_own, clear_other}
use Rattle.lists.proofs.Members.{get_d_any}
use Rattle.cnf.specs.Clauses.{value_of}
use Rattle.cnf.specs.Search.{forcing}
use Rattle.cnf.specs.Closing.{◌⊑◌, Found}
use Rattle.cnf.proofs.Values.{⊑_refl, set_more}
use Rattle.cnf.proofs.Order.{units-more}
use Rattle.pairs.specs.Pairs.{variable_of}
use Rattle.pairs.specs.Triangles.{triangles}
use Rattle.sat_trail.specs.Trail.{Ready, Worked}
use Rattle.sat_trail.specs.Rows.{Rows, Put}
use Rattle.sat_trail.specs.Conclusions.{saying, Concludes, alike, parted, Spreads, Spread, SpreadBoth}
use Rattle.sat_trail.proofs.Marking.{pair_inside}
use Rattle.sat_trail.proofs.Setting.{put_forced}
use Rattle.sat_trail.proofs.Working.{worked-none, worked-extends, worked_on, worked_trans, forced_room, worked_forced}
use Rattle.equality_spread.proofs.Triangles.{conclude_forces, conclude_breaks}

-- ---- a conclusion stays one

pub concludes_more : {v w : List ℕ} {x y k : ℕ} → v ⊑ w → Concludes v x y k → Concludes w x y k
concludes_more {v} {w} {x} {y} {k} h (alike a b c) = alike (h.keeps x (omega arith) ∙ a) (h.keeps y (λ z. c (sym b ∙ z)) ∙ b) c
concludes_more {v} {w} {x} {y} {k} h (parted a b c) = parted (h.keeps x (omega arith) ∙ a) (h.keeps y (omega arith) ∙ b) c

pub spreads_more : {n : ℕ} {v w : List ℕ} {q todo x : ℕ} → v ⊑ w → Spreads n v q todo x → Spreads n w q todo x
spreads_more up h = record { p = h.p; p_in = h.p_in; q_in = h.q_in; different = h.different; small = h.small; each = λ s b. let e = h.each s b in (e.0, e.1, e.2, concludes_more up e.3) }

-- ---- the loop

pub record Spreading (n : ℕ) (v t : List ℕ) (start q todo x : ℕ) (w s : List ℕ) (count : ℕ) (joined apart : List ℕ) (rest : ℕ) : Type 0 where
  pub worked : Worked (triangles n) v t start w s false count
  pub rows : Rows n w joined apart
  pub small : rest < 2 ^ 64
  pub part : (r : ℕ) → Bit rest r → Bit todo r
  pub done : (r : ℕ) → Bit todo r → Bit rest r ⊎ (value_of w (variable_of q r) ≡ x)

module _ {n : ℕ} {v t joined₀ apart₀ : List ℕ} {start q todo x : ℕ} (i : Ready (triangles n) v t start) (o : Rows n v joined₀ apart₀) (h : Spreads n v q todo x) where
  pub spreading : todo < 2 ^ 64 → Spreading n v t start q todo x v t start joined₀ apart₀ todo
  spreading l = record { worked = worked-none i; rows = o; small = l; part = λ r b. b; done = λ r b. inl b }

-- the word is empty
pub spread_end :
    {n : ℕ} {v t w s joined apart : List ℕ} {start q todo x count rest : ℕ} → Spreading n v t start q todo x w s count joined apart rest → rest ≡ 0
    → Spread n v t start q todo x w s false count × Rows n w joined apart
spread_end {w = w} {q = q} {x = x} {rest = rest} j e = (record { worked = j.worked; done = λ _ r k. go r (j.done r k) }, j.rows)
  where
    go : (r : ℕ) → Bit rest r ⊎ (value_of w (variable_of q r) ≡ x) → value_of w (variable_of q r) ≡ x
    go r (inl k) = absurd (no_bit r (rw e at k))
    go r (inr k) = k

-- at the lowest state r of the word, with the rest of the word, the place of its pair with q, and the value there
pub record Met (n : ℕ) (v t : List ℕ) (start q todo x : ℕ) (w s : List ℕ) (count : ℕ) (joined apart : List ℕ) (rest r rest' m : ℕ) : Type 0 where
  pub ready : Ready (triangles n) v t start
  pub spreads : Spreads n v q todo x
  pub spreading_on : Spreading n v t start q todo x w s count joined apart rest
  pub some : rest ≢ 0
  pub is_lowest : r ≡ count_trailing_zeros 64 rest
  pub is_rest : rest' ≡ rest - 2 ^ count_trailing_zeros 64 rest
  pub is_place : m ≡ variable_of q r

pub meet : {n : ℕ} {v t : List ℕ} {start q todo x : ℕ} {w s : List ℕ} {count : ℕ} {joined apart : List ℕ} {rest r rest' m : ℕ} → Ready (triangles n) v t start → Spreads n v q todo x
    → Spreading n v t start q todo x w s count joined apart rest → rest ≢ 0 → r ≡ count_trailing_zeros 64 rest → rest' ≡ rest - 2 ^ count_trailing_zeros 64 rest → m ≡ variable_of q r → Met n v t start q todo x w s count joined apart rest r rest' m
meet a b c d e f g = record { ready = a; spreads = b; spreading_on = c; some = d; is_lowest = e; is_rest = f; is_place = g }

pub low-state :
    {n : ℕ} {v t : List ℕ} {start q todo x : ℕ} {w s : List ℕ} {count : ℕ} {joined apart : List ℕ} {rest r : ℕ} → Spreads n v q todo x
    → Spreading n v t start q todo x w s count joined apart rest → rest ≢ 0 → r ≡ count_trailing_zeros 64 rest → r < n
low-state {rest = rest} {r = r} h j some e = (h.each r (j.part r (subst (Bit rest) (sym e) (trailing_lowest 64 rest j.small some).1.own))).0

module _ {n : ℕ} {v t : List ℕ} {start q todo x : ℕ} {w s : List ℕ} {count : ℕ} {joined apart : List ℕ} {rest r rest' m : ℕ} (g : Met n v t start q todo x w s count joined apart rest r rest' m) where
  open g use {ready as i, spreads as h, spreading_on as j}

  lowest : LowestBit rest r
  lowest = rw g.is_lowest (trailing_lowest 64 rest j.small g.some).1

  left_over : rest' ≡ rest - 2 ^ r
  left_over = rw g.is_lowest g.is_rest

  in_todo : Bit todo r
  in_todo = j.part r lowest.own

  pub state_in : r < n
  state_in = (h.each r in_todo).0

  pub bounds : (q < 40) × (r < 40)
  bounds = (omega (arith, h.q_in, j.rows.few), omega (arith, state_in, j.rows.few))

  not_q : q ≢ r
  not_q z = (h.each r in_todo).2 (sym z)

  not-p : h.p ≢ r
  not-p z = (h.each r in_todo).1 (sym z)

  pub inside : variable_of q r < length w
  inside = pair_inside j.rows q r h.q_in state_in not_q

  pub place_inside : m < length w
  place_inside = rw g.is_place inside

  pub rest-less : rest' < rest
  rest-less = omega (arith, left_over, pow_pos r, bit_le rest r lowest.own)

  concludes : Concludes w (variable_of h.p q) (variable_of h.p r) x
  concludes = concludes_more (worked-extends i j.worked) (h.each r in_todo).3

  here : {y : ℕ} → y ≡ get_or w m 0 → value_of w (variable_of q r) ≡ y
  here k = get_d_any w (variable_of q r) 2 0 inside ∙ ap (λ (z : ℕ). get_or w z 0) (sym g.is_place) ∙ sym k

  left : (y : ℕ) → Bit rest y → (y ≡ r) ⊎ Bit (rest - 2 ^ r) y
  left y b = go (ℕ_discrete y r)
    where
      go : Dec (y ≡ r) → (y ≡ r) ⊎ Bit (rest - 2 ^ r) y
      go (yes z) = inl z
      go (no z) = inr (clear_other rest r y lowest.own z ∙ b)

  left-part : (y : ℕ) → Bit (rest - 2 ^ r) y → Bit todo y
  left-part y b = go (ℕ_discrete y r)
    where
      go : Dec (y ≡ r) → Bit todo y
      go (yes z) = absurd (clear_own rest r lowest.own (rw z at b))
      go (no z) = j.part y (sym (clear_other rest r y lowest.own z) ∙ b)

  left-done : (w' : List ℕ) → w ⊑ w' → value_of w' (variable_of q r) ≡ x → (y : ℕ) → Bit todo y → Bit (rest - 2 ^ r) y ⊎ (value_of w' (variable_of q y) ≡ x)
  left-done w' up z y b = go (j.done y b)
    where
      pick : (y ≡ r) ⊎ Bit (rest - 2 ^ r) y → Bit (rest - 2 ^ r) y ⊎ (value_of w' (variable_of q y) ≡ x)
      pick (inl c) = inr (ap (λ (k : ℕ). value_of w' (variable_of q k)) c ∙ z)
      pick (inr c) = inl c

      go : Bit rest y ⊎ (value_of w (variable_of q y) ≡ x) → Bit (rest - 2 ^ r) y ⊎ (value_of w' (variable_of q y) ≡ x)
      go (inl c) = pick (left y c)
      go (inr c) = inr (up.keeps (variable_of q y) (omega (arith, h.small)) ∙ c)

  module _ {y : ℕ} (k : y ≡ get_or w m 0) where
    module _ (u : y ≡ 2) where
      unset : value_of w (variable_of q r) ≡ 2
      unset = here k ∙ u

      forces : Found w (triangles n) (forcing (saying (variable_of q r) x))
      forces = conclude_forces n h.p q r h.p_in h.q_in state_in h.different not-p not_q w x h.small concludes unset

      pub can_put : count < length s
      can_put = forced_room (worked_on i j.worked) forces

      pub spread_put : {z c : ℕ} {w' s' j' a' : List ℕ} → z ≡ variable_of q r → Put w s joined apart count z q r x w' s' j' a' c → Spreading n v t start q todo x w' s' c j' a' rest'
      spread_put {w' = w'} e f =
          let values : w' ≡ set w (variable_of q r) x = f.values ∙ ap (λ (y : ℕ). set w y x) e in
          let forced = put_forced j.rows e h.q_in state_in not_q unset h.small f in
          rw left_over (record {
            worked = worked_trans j.worked (worked_forced (worked_on i j.worked) forces forced);
            rows = forced.assigned.rows;
            small = omega (arith, j.small);
            part = left-part;
            done = left-done w' (rw values (set_more w (variable_of q r) x unset)) (rw values (get_or-set_same w (variable_of q r) x 2 inside));
          })

    pub spread_skip : y ≡ x → Spreading n v t start q todo x w s count joined apart rest'
    spread_skip z = rw left_over (record { worked = j.worked; rows = j.rows; small = omega (arith, j.small); part = left-part; done = left-done w (⊑_refl w) (here k ∙ z) })

    pub spread_broken : (y ≡ 2 → ⊥) → (y ≡ x → ⊥) → Spread n v t start q todo x w s true count × Rows n w joined apart
    spread_broken a b = (
      record {
        worked = record {
          grown = j.worked.grown;
          units = j.worked.units;
          fresh = j.worked.fresh;
          breaking = λ _. conclude_breaks n h.p q r h.p_in h.q_in state_in h.different not-p not_q w x h.small ((worked_on i j.worked).values.small (variable_of q r)) concludes (λ z. a (sym (here k) ∙ z)) (λ z. b (sym (here k) ∙ z));
        };
        done = λ e. absurd (true≢false e);
      },
      j.rows,
    )

-- ---- a spread after a spread

module _ {n p q todo back x : ℕ} {v t w s : List ℕ} {start more : ℕ} {isBroken : Bool} (i : Ready (triangles n) v t start) (k : Spread n v t start q todo x w s isBroken more) where
  pub both-then : Spreads n v p back x → Spreads n w p back x
  both-then h = spreads_more (worked-extends i k.worked) h

  pub both-broken : isBroken ≡ true → SpreadBoth n v t start p q todo back x w s isBroken more
  both-broken e = record { worked = k.worked; done_q = λ f. absurd (true≢false (sym e ∙ f)); done-p = λ f. absurd (true≢false (sym e ∙ f)) }

  pub both-done : {u r : List ℕ} {last : ℕ} {isBroken' : Bool} → x ≤ 1 → isBroken ≡ false → Spread n w s more p back x u r isBroken' last → SpreadBoth n v t start p q todo back x u r isBroken' last
  both-done {u} small b h = record {
    worked = worked_trans k.worked h.worked;
    done_q = λ f y m. let d = k.done b y m in (units-more (triangles n) w u h.worked.units).keeps (variable_of q y) (omega arith) ∙ d;
    done-p = h.done;
  }
