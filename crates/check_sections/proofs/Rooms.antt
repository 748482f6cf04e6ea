-- A room gains the bits of records one by one, and its words are cleared again. Assumes nothing.
use mathlib.Core.Path.{◌≡◌, refl, sym, ap, ◌∙◌, subst}
use mathlib.Core.Logic.{◌≢◌, ◌⊎◌, inl, inr}
use mathlib.Core.Bool.{Bool, true, false, ◌&&◌, ◌||◌, not, true≢false}
use mathlib.Core.List.Memᴰ
use mathlib.Core.List.{List, [], ◌∷◌, ◌++◌, Memᴰ}
use Prim.Native.Nat.{ℕ, ◌+◌, ◌-◌, ◌^◌, ◌≤◌, ◌<◌}
use native.Mathlib.Omega.{arith}
use native.Mathlib.Decide.{ℕ_discrete}
use lib.ListN.{length, get_or, set, replicate, length-set, length-replicate}
use lib.Seq.{get_or-set_same, get_or-set_other}
use lib.Bits.{bit_and, bit_or}
use lib.Dec.{eqb}
use borrow.Author.Tests.{eqb-true, eq-eqb, lt-ltb, le-ltb}
use Rattle.lists.specs.Lists.{any}
use Rattle.lists.specs.Bits.{Bit, has_bit, has}
use Rattle.lists.proofs.Bits.{or-bit, bit-left, bit-right, no_bit, bit-own, bit-pow, has-true, has_of}
use Rattle.lists.proofs.Words.{has_no, bits_equal}
use Rattle.lists.proofs.Members.{and-true, and_of, or-true, or_left, or_right, any-true, zeros}
use Rattle.table_spec.specs.File.{records}
use Rattle.table_spec.proofs.Chunks.{chunk_on, chunk_end}
use Rattle.check_matching.specs.Matching.{kept}
use Rattle.check_matching.proofs.Matched.{same_test}
use Rattle.check_sections.specs.Rooms.{place_of, bit_of, Placed, Lies, gained, cleared, Empty, noted, Room, covering, met_by}

-- ---- a record's bit

pub move_bit : (r : List ℕ) {x : ℕ} → length r < 4 → x ≡ get_or r 0 0 → x ≡ bit_of r
unfolding bit_of
move_bit r h e = e ∙ sym (rw (lt-ltb _ _ h, bit_of))

pub return-bit : (r : List ℕ) {x : ℕ} → 4 ≤ length r → x ≡ get_or r 2 0 → x ≡ bit_of r
unfolding bit_of
return-bit r h e = e ∙ sym (rw (le-ltb _ _ h, bit_of))

-- it is a state
pub bit-small : {ws r : List ℕ} → Placed ws r → bit_of r < 40
unfolding bit_of
bit-small {ws} {r} p = go (ℕ_discrete (length r) 4)
  where
    go : Dec (length r ≡ 4) → bit_of r < 40
    go (yes e) = omega (arith, return-bit r (omega arith) refl, p.states 2 (λ z. omega arith) (omega arith))
    go (no e) = omega (arith, move_bit r (omega (arith, p.most)) refl, p.states 0 (λ z. omega arith) (omega (arith, p.least)))

-- ---- a room gains a bit

module _ (room : List ℕ) (p v : ℕ) (l : p < length room) where
  more : List ℕ
  more = set room p (bit_or (get_or room p 0) (2 ^ v))

  module _ (k x : ℕ) where
    here : k ≡ p → get_or more k 0 ≡ bit_or (get_or room k 0) (2 ^ v)
    unfolding more
    here e = ap (λ (j : ℕ). get_or (set room p (bit_or (get_or room p 0) (2 ^ v))) j 0) e ∙ get_or-set_same room p (bit_or (get_or room p 0) (2 ^ v)) 0 l ∙ ap (λ (j : ℕ). bit_or (get_or room j 0) (2 ^ v)) (sym e)

    there : k ≢ p → get_or more k 0 ≡ get_or room k 0
    unfolding more
    there n = get_or-set_other room p k (bit_or (get_or room p 0) (2 ^ v)) 0 n

    either : k ≡ p → Bit (get_or room k 0) x ⊎ Bit (2 ^ v) x → (has room k x || (eqb k p && eqb x v)) ≡ true
    either e (inl b) = or_left _ (has_of room k x b)
    either e (inr b) = or_right (has room k x) (and_of (eq-eqb k p e) (eq-eqb x v (bit-pow v x b)))

    onward : Dec (k ≡ p) → Bit (get_or more k 0) x → (has room k x || (eqb k p && eqb x v)) ≡ true
    onward (no n) b = or_left _ (has_of room k x (subst (λ (w : ℕ). Bit w x) (there n) b))
    onward (yes e) b = either e (or-bit (get_or room k 0) (2 ^ v) x (subst (λ (w : ℕ). Bit w x) (here e) b))

    backward : Dec (k ≡ p) → (has room k x ≡ true) ⊎ ((eqb k p && eqb x v) ≡ true) → Bit (get_or more k 0) x
    backward (yes e) (inl h) = subst (λ (w : ℕ). Bit w x) (sym (here e)) (bit-left (get_or room k 0) (2 ^ v) x (has-true room k x h))
    backward (no n) (inl h) = subst (λ (w : ℕ). Bit w x) (sym (there n)) (has-true room k x h)
    backward d (inr h) =
        let t = and-true (eqb k p) (eqb x v) h in
        subst (λ (w : ℕ). Bit w x) (sym (here (eqb-true k p t.0))) (bit-right (get_or room k 0) (2 ^ v) x (subst (λ (y : ℕ). Bit (2 ^ v) y) (sym (eqb-true x v t.1)) (bit-own v)))

    gains : has (set room p (bit_or (get_or room p 0) (2 ^ v))) k x ≡ (has room k x || (eqb k p && eqb x v))
    unfolding more
    gains = same_test _ _ (λ h. onward (ℕ_discrete k p) (has-true more k x h)) (λ h. has_of more k x (backward (ℕ_discrete k p) (or-true _ _ h)))

or-none : (a : Bool) → (a || false) ≡ a
or-none true = refl
or-none false = refl

or_assoc : (a b c : Bool) → ((a || b) || c) ≡ (a || (b || c))
or_assoc true b c = refl
or_assoc false b c = refl

-- ---- what a record does to a room, where it is one of the states and where it is not

module _ (ws : List ℕ) (own : ℕ) (r room : List ℕ) where
  pub gain-own : {p v : ℕ} → has_bit own (get_or r 0 0) ≡ true → p ≡ place_of ws r → v ≡ 2 ^ bit_of r → set room p (bit_or (get_or room p 0) v) ≡ gained ws own r room
  unfolding gained
  gain-own e d b = (λ i. set room (d i) (bit_or (get_or room (d i) 0) (b i))) ∙ sym (rw (e, gained))

  pub gain-other : has_bit own (get_or r 0 0) ≡ false → room ≡ gained ws own r room
  unfolding gained
  gain-other e = sym (rw (e, gained))

  pub clear_own : {p : ℕ} → has_bit own (get_or r 0 0) ≡ true → p ≡ place_of ws r → set room p 0 ≡ cleared ws own r room
  unfolding cleared
  clear_own e d = ap (λ (p : ℕ). set room p 0) d ∙ sym (rw (e, cleared))

  pub clear_other : has_bit own (get_or r 0 0) ≡ false → room ≡ cleared ws own r room
  unfolding cleared
  clear_other e = sym (rw (e, cleared))

  gained-long : length (gained ws own r room) ≡ length room
  unfolding gained
  gained-long = go (has_bit own (get_or r 0 0))
    where
      go : (t : Bool) → length {A = ℕ} (elim t [ true ↦ set room (place_of ws r) (bit_or (get_or room (place_of ws r) 0) (2 ^ bit_of r)) | false ↦ room ]) ≡ length room
      go true = length-set room (place_of ws r) (bit_or (get_or room (place_of ws r) 0) (2 ^ bit_of r))
      go false = refl

  gained-bits : place_of ws r < length room → (k x : ℕ) → has (gained ws own r room) k x ≡ (has room k x || noted ws own k x r)
  unfolding gained noted
  gained-bits l k x = go (has_bit own (get_or r 0 0))
    where
      go :
          (t : Bool)
          → has (elim t [ true ↦ set room (place_of ws r) (bit_or (get_or room (place_of ws r) 0) (2 ^ bit_of r)) | false ↦ room ]) k x ≡ (has room k x || (t && (eqb k (place_of ws r) && eqb x (bit_of r))))
      go true = gains room (place_of ws r) (bit_of r) l k x
      go false = sym (or-none (has room k x))

-- what a noted record is
pub of_noted : (ws : List ℕ) (own k x : ℕ) (r : List ℕ) → noted ws own k x r ≡ true → (has_bit own (get_or r 0 0) ≡ true) × (k ≡ place_of ws r) × (x ≡ bit_of r)
unfolding noted
of_noted ws own k x r e =
    let t = and-true (has_bit own (get_or r 0 0)) (eqb k (place_of ws r) && eqb x (bit_of r)) e in
    let u = and-true (eqb k (place_of ws r)) (eqb x (bit_of r)) t.1 in
    (t.0, eqb-true _ _ u.0, eqb-true _ _ u.1)

pub be_noted : (ws : List ℕ) (own k x : ℕ) (r : List ℕ) → has_bit own (get_or r 0 0) ≡ true → k ≡ place_of ws r → x ≡ bit_of r → noted ws own k x r ≡ true
unfolding noted
be_noted ws own k x r h d b = and_of h (and_of (eq-eqb _ _ d) (eq-eqb _ _ b))

-- ---- a walk over the records of a section

-- the records that are left are records of the section
pub record Ahead (w : ℕ) (s : List ℕ) (n : ℕ) (rest : List ℕ) : Type 0 where
  pub can_next : 0 < n
  pub width : n ≡ w
  pub among : (r : List ℕ) → Memᴰ r (records w rest) → Memᴰ r (records w s)

pub all_ahead : {w n : ℕ} {s rest : List ℕ} → 0 < w → n ≡ w → rest ≡ s → Ahead w s n rest
all_ahead {w} p e d = record { can_next = omega arith; width = e; among = λ r h. subst (λ (y : List ℕ). Memᴰ r (records w y)) d h }

module _ {w : ℕ} {s : List ℕ} {n : ℕ} {rest : List ℕ} (a : Ahead w s n rest) (x t : List ℕ) (e : (rest ≡ x ++ t) × (length x ≡ n)) where
  -- a record is taken
  pub one_on : records w rest ≡ x ∷ records w t
  one_on = chunk_on rest x t (omega (arith, a)) e.0 (e.1 ∙ a.width)

  one-here : Memᴰ x (records w s)
  one-here = a.among x (subst (Memᴰ x) (sym one_on) (Memᴰ.head refl))

  pub ahead_on : {m : ℕ} → m ≡ n → Ahead w s m t
  ahead_on d = record { can_next = omega (arith, a); width = d ∙ a.width; among = λ r h. a.among r (subst (Memᴰ r) (sym one_on) (Memᴰ.tail h)) }

  -- it has its place
  pub placed-here : {ws : List ℕ} → Lies w s ws → Placed ws x
  placed-here l = l.placed x one-here

pub none_ahead : {w n : ℕ} {s rest : List ℕ} → Ahead w s n rest → length rest < n → records w rest ≡ []
none_ahead {rest = rest} a h = chunk_end rest (omega (arith, a))

-- ---- the room has the bits of the records taken

pub record Noting (w : ℕ) (s ws : List ℕ) (own : ℕ) (room : List ℕ) (n : ℕ) (rest : List ℕ) : Type 0 where
  pub ahead : Ahead w s n rest
  pub long : length room ≡ 2560
  pub bits : (k x : ℕ) → any (noted ws own k x) (records w s) ≡ (has room k x || any (noted ws own k x) (records w rest))

pub noting : (w : ℕ) (s ws : List ℕ) (own : ℕ) {room : List ℕ} {n : ℕ} {rest : List ℕ} → Lies w s ws → Empty room → n ≡ w → rest ≡ s → Noting w s ws own room n rest
noting w s ws own {room} l t e d = record {
  ahead = all_ahead (omega (arith, l.wide)) e d;
  long = t.long;
  bits = λ k x. sym (ap (λ (y : List ℕ). has room k x || any (noted ws own k x) (records w y)) d ∙ ap (λ (b : Bool). b || any (noted ws own k x) (records w s)) (has_no room k x (λ b. no_bit x (subst (λ (y : ℕ). Bit y x) (t.zero k) b))));
}

module _ {w : ℕ} {s ws : List ℕ} {own : ℕ} {room : List ℕ} {n : ℕ} {rest : List ℕ} (g : Noting w s ws own room n rest) where
  pub note_on : {new : List ℕ} {m : ℕ} (r t : List ℕ) → (rest ≡ r ++ t) × (length r ≡ n) → m ≡ n → Lies w s ws → new ≡ gained ws own r room → Noting w s ws own new m t
  note_on {new} r t d f l e =
      let q = placed-here g.ahead r t d l in
      let small : place_of ws r < length room = omega (arith, g.long, q.symbol, q.target) in
      record {
        ahead = ahead_on g.ahead r t d f;
        long = ap length e ∙ gained-long ws own r room ∙ g.long;
        bits = λ k x. g.bits k x ∙ ap (λ (rs : List (List ℕ)). has room k x || any (noted ws own k x) rs) (one_on g.ahead r t d)
            ∙ sym (or_assoc (has room k x) (noted ws own k x r) (any (noted ws own k x) (records w t)))
            ∙ ap (λ (b : Bool). b || any (noted ws own k x) (records w t)) (sym (ap (λ (y : List ℕ). has y k x) e ∙ gained-bits ws own r room small k x));
      }

  pub all_noted : length rest < n → Room (records w s) ws own room
  all_noted h = record { long = g.long; bits = λ k x. sym (g.bits k x ∙ ap (λ (rs : List (List ℕ)). has room k x || any (noted ws own k x) rs) (none_ahead g.ahead h) ∙ or-none (has room k x)) }

-- ---- the words of the records taken are cleared

-- a record of these states whose word is k
abbrev Touches : List ℕ → ℕ → ℕ → List ℕ → Type 0
Touches ws own k r = (has_bit own (get_or r 0 0) ≡ true) × (k ≡ place_of ws r)

pub record Wiping (w : ℕ) (s ws : List ℕ) (own : ℕ) (room : List ℕ) (n : ℕ) (rest : List ℕ) : Type 0 where
  pub ahead : Ahead w s n rest
  pub long : length room ≡ 2560
  pub zero : (k : ℕ) → ((r : List ℕ) → Memᴰ r (records w rest) → Touches ws own k r → ⊥) → get_or room k 0 ≡ 0

pub wiping : (w : ℕ) (s ws : List ℕ) (own : ℕ) {room : List ℕ} {n : ℕ} {rest : List ℕ} → Lies w s ws → Room (records w s) ws own room → n ≡ w → rest ≡ s → Wiping w s ws own room n rest
wiping w s ws own {room} {n} {rest} l g e d = record { ahead = all_ahead (omega (arith, l.wide)) e d; long = g.long; zero = λ k f. bits_equal _ _ (λ x b. absurd (found k x f (any-true _ (records w s) (sym (g.bits k x) ∙ has_of room k x b)))) (λ x b. absurd (no_bit x b)) }
  where
    found : (k x : ℕ) → ((r : List ℕ) → Memᴰ r (records w rest) → Touches ws own k r → ⊥) → (r : List ℕ) × Memᴰ r (records w s) × (noted ws own k x r ≡ true) → ⊥
    found k x f (r, h, e) = let t = of_noted ws own k x r e in f r (subst (λ (y : List ℕ). Memᴰ r (records w y)) (sym d) h) (t.0, t.1)

module _ {w : ℕ} {s ws : List ℕ} {own : ℕ} {room : List ℕ} {n : ℕ} {rest : List ℕ} (g : Wiping w s ws own room n rest) where
  pub wipe_on : {new : List ℕ} {m : ℕ} (r t : List ℕ) → (rest ≡ r ++ t) × (length r ≡ n) → m ≡ n → Lies w s ws → new ≡ cleared ws own r room → Wiping w s ws own new m t
  unfolding cleared
  wipe_on {new} {m} r t d f l e = go (has_bit own (get_or r 0 0)) refl e
    where
      split : (k : ℕ) → ((y : List ℕ) → Memᴰ y (records w t) → Touches ws own k y → ⊥) → (Touches ws own k r → ⊥) → (y : List ℕ) → Memᴰ y (records w rest) → Touches ws own k y → ⊥
      split k n m y h u = cases (Memᴰ.cases_cons (subst (Memᴰ y) (one_on g.ahead r t d) h))
        where
          cases : (y ≡ r) ⊎ Memᴰ y (records w t) → ⊥
          cases (inl z) = m (subst (Touches ws own k) z u)
          cases (inr z) = n y z u

      go : (b : Bool) → has_bit own (get_or r 0 0) ≡ b → new ≡ (elim b as (λ _. List ℕ) [ true ↦ set room (place_of ws r) 0 | false ↦ room ]) → Wiping w s ws own new m t
      go false b e = record {
        ahead = ahead_on g.ahead r t d f;
        long = ap length e ∙ g.long;
        zero = λ k n. ap (λ (y : List ℕ). get_or y k 0) e ∙ g.zero k (split k n (λ u. let z : ◌≡◌ {A = Bool} true false = sym u.0 ∙ b in absurd (true≢false z)));
      }
      go true b e = record {
        ahead = ahead_on g.ahead r t d f;
        long = ap length e ∙ length-set room (place_of ws r) 0 ∙ g.long;
        zero = λ k n. ap (λ (y : List ℕ). get_or y k 0) e ∙ word k n (ℕ_discrete k (place_of ws r));
      }
        where
          word : (k : ℕ) → ((y : List ℕ) → Memᴰ y (records w t) → Touches ws own k y → ⊥) → Dec (k ≡ place_of ws r) → get_or (set room (place_of ws r) 0) k 0 ≡ 0
          word k n (yes z) =
              let q = placed-here g.ahead r t d l in
              ap (λ (j : ℕ). get_or (set room (place_of ws r) 0) j 0) z ∙ get_or-set_same room (place_of ws r) 0 0 (omega (arith, g.long, q.symbol, q.target))
          word k n (no z) = get_or-set_other room (place_of ws r) k 0 0 z ∙ g.zero k (split k n (λ u. z u.1))

  pub all_wiped : length rest < n → Empty room
  all_wiped h = record { long = g.long; zero = λ k. g.zero k (λ r d t. Memᴰ.not-nil (subst (Memᴰ r) (none_ahead g.ahead h) d)) }

-- ---- a new room

pub no_room : Empty (replicate 2560 0)
no_room = record { long = length-replicate {A = ℕ} 2560 0; zero = λ k. zeros 2560 k }

-- ---- a record that asks

pub asked_met :
    (f ws : List ℕ) (askers tops : ℕ) (room r : List ℕ) {p v : ℕ} {b : Bool} → has_bit askers (get_or r 0 0) ≡ true → kept f r ≡ true → p ≡ place_of ws r
    → v ≡ bit_of r → b ≡ eqb (bit_or (get_or room p 0) (bit_and (get_or ws v 0) tops)) (get_or room p 0) → b ≡ met_by f ws askers tops room r
asked_met f ws askers tops room r a k d e h = h ∙ (λ i. eqb (bit_or (get_or room (d i) 0) (bit_and (get_or ws (e i) 0) tops)) (get_or room (d i) 0)) ∙ λ i. not (sym a i) || (not (sym k i) || covering ws tops room r)
