-- The bytes of the symbols and of the states, and the counts, as the code tests them. Assumes nothing.
use mathlib.Core.Path.{◌≡◌, sym, ap, ◌∙◌}
use mathlib.Core.Bool.{false}
use mathlib.Core.List.{map}
use Prim.Native.Nat.{ℕ, ◌+◌, ◌<◌, ◌≤◌}
use native.Mathlib.Omega.{arith}
use lib.ListN.{length, get_or, length-map}
use lib.Dec.{leb}
use borrow.Author.Tests.{lt-ltb, le-ltb, lt-leb, le-leb, eq-eqb, ne_eqb}
use Rattle.lists.specs.Lists.{upto}
use Rattle.lists.proofs.Members.{get_d_map, length-upto, get_d_upto}
use Rattle.limits.specs.declared.Limits.{Limits}
use Rattle.quotient_spec.specs.Quotient.{bit_of}
use Rattle.generate_spec.specs.Loads.{kind_of, symbol_bytes, state_byte, state_bytes, sizes_fit}

-- ---- one number for each number below n

pub length-each : (f : ℕ → ℕ) (n : ℕ) → length (map f (upto n)) ≡ n
length-each f n = length-map (upto n) f ∙ length-upto n

pub get_d_each : (f : ℕ → ℕ) (n i : ℕ) → i < n → get_or (map f (upto n)) i 0 ≡ f i
get_d_each f n i h = get_d_map f (upto n) i 0 0 (omega (arith, length-upto n)) ∙ ap f (get_d_upto n i 0 h)

pub length_symbols : (i c n : ℕ) → length (symbol_bytes i c n) ≡ n
unfolding symbol_bytes
length_symbols i c n = length-each (kind_of i c) n

pub symbol-at : (i c n a : ℕ) → a < n → kind_of i c a ≡ get_or (symbol_bytes i c n) a 0
unfolding symbol_bytes
symbol-at i c n a h = sym (get_d_each (kind_of i c) n a h)

pub length-states : (n : ℕ) → length (state_bytes n) ≡ n
unfolding state_bytes
length-states n = length-each (state_byte n) n

pub state-at : (n q : ℕ) → q < n → state_byte n q ≡ get_or (state_bytes n) q 0
unfolding state_bytes
state-at n q h = sym (get_d_each (state_byte n) n q h)

-- ---- a symbol's kind

module _ (i c a : ℕ) where
  pub kind_internal : a < i → 0 ≡ kind_of i c a
  unfolding kind_of
  kind_internal h = sym (rw (lt-ltb a i h, kind_of))

  pub kind_call : i ≤ a → a < i + c → 1 ≡ kind_of i c a
  unfolding kind_of
  kind_call h k = sym (rw (le-ltb a i h, lt-ltb a (i + c) k, kind_of))

  pub kind_return : i ≤ a → i + c ≤ a → 2 ≡ kind_of i c a
  unfolding kind_of
  kind_return h k = sym (rw (le-ltb a i h, le-ltb a (i + c) k, kind_of))

-- ---- a state's byte

module _ (n q : ℕ) where
  pub byte_both : q + 1 ≡ n → q ≡ 0 → 3 ≡ state_byte n q
  unfolding state_byte bit_of
  byte_both h k = sym (rw (eq-eqb (q + 1) n h, eq-eqb q 0 k, state_byte))

  pub byte_last : q + 1 ≡ n → (q ≡ 0 → ⊥) → 2 ≡ state_byte n q
  unfolding state_byte bit_of
  byte_last h k = sym (rw (eq-eqb (q + 1) n h, ne_eqb q 0 k, state_byte))

  pub byte_first : (q + 1 ≡ n → ⊥) → q ≡ 0 → 1 ≡ state_byte n q
  unfolding state_byte bit_of
  byte_first h k = sym (rw (ne_eqb (q + 1) n h, eq-eqb q 0 k, state_byte))

  pub byte_plain : (q + 1 ≡ n → ⊥) → (q ≡ 0 → ⊥) → 0 ≡ state_byte n q
  unfolding state_byte bit_of
  byte_plain h k = sym (rw (ne_eqb (q + 1) n h, ne_eqb q 0 k, state_byte))

-- ---- 35

module _ (L : Limits) (n k d : ℕ) where
  pub no_states : n < 1 → false ≡ sizes_fit L n k d
  unfolding sizes_fit
  no_states h = sym (rw (lt-leb 1 n h, sizes_fit))

  pub many_states : 1 ≤ n → L.states < n → false ≡ sizes_fit L n k d
  unfolding sizes_fit
  many_states g h = sym (rw (le-leb 1 n g, lt-leb n L.states h, sizes_fit))

  pub many_symbols : 1 ≤ n → n ≤ L.states → L.symbols < k → false ≡ sizes_fit L n k d
  unfolding sizes_fit
  many_symbols g h l = sym (rw (le-leb 1 n g, le-leb n L.states h, lt-leb k L.symbols l, sizes_fit))

  pub by_density : 1 ≤ n → n ≤ L.states → k ≤ L.symbols → leb d 65536 ≡ sizes_fit L n k d
  unfolding sizes_fit
  by_density g h l = sym (rw (le-leb 1 n g, le-leb n L.states h, le-leb k L.symbols l, sizes_fit))
