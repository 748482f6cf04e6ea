-- The table described is well formed (document 02, (x): "is always readable"). Assumes nothing.
use mathlib.Core.Path.{◌≡◌, refl, sym, ap, ◌∙◌, subst}
use mathlib.Core.Bool.{Bool, true, false}
use mathlib.Core.List.Memᴰ
use mathlib.Core.List.{List, map, Memᴰ}
use Prim.Native.Nat.{ℕ, ◌+◌, ◌-◌, ◌*◌, ◌%◌, ◌<◌, ◌≤◌}
use native.Mathlib.Omega.{arith}
use lib.ListN.{length, get_or}
use lib.Dec.{eqb, ltb}
use borrow.Author.Tests.{leb-true, lt-ltb, eq-eqb}
use Rattle.lists.specs.Lists.{all, upto}
use Rattle.lists.proofs.Members.{and-true, and_of, get_d_mem, any_of}
use Rattle.limits.specs.declared.Limits.{Limits}
use Rattle.limits.specs.Limits.{limits_fit}
use Rattle.table_spec.specs.File.{table_of}
use Rattle.table_spec.specs.Reading.{version_fits, state_byte_most, is_initial, record_fits, Readable, WellFormed}
use Rattle.table_spec.proofs.Passed.{Wide, Tested, formed_of}
use Rattle.table_spec.proofs.Bytes.{table_of-bytes, read-bytes}
use Rattle.quotient_spec.specs.Quotient.{bit_of}
use Rattle.quotient_spec.proofs.States.{bit-small}
use Rattle.generate_spec.specs.Loads.{Load, kind_of, symbol_bytes, state_byte, state_bytes, possible, possible_internals, possible_calls, possible_returns, seed_calls, seed_returns, described, described_bytes, sizes_fit, records_few}
use Rattle.generate_spec.proofs.Tuples.{Possible, possible_of, possible-ascend}
use Rattle.generate_spec.proofs.Present.{present-mem, present_ascends}
use Rattle.generate_spec.proofs.Bytes.{length_symbols, symbol-at, length-states, state-at, kind_internal, kind_call, kind_return}

-- what it says that 35 does not apply
pub record Sized (L : Limits) (n k d : ℕ) : Type 0 where
  pub some-state : 1 ≤ n
  pub states : n ≤ L.states
  pub symbols : k ≤ L.symbols
  pub density : d ≤ 65536

pub sizes_sized : (L : Limits) (n k d : ℕ) → sizes_fit L n k d ≡ true → Sized L n k d
unfolding sizes_fit
sizes_sized L n k d e =
    let c = and-true _ _ e in
    let b = and-true _ _ c.0 in
    let a = and-true _ _ b.0 in
    record { some-state = leb-true _ _ a.0; states = leb-true _ _ a.1; symbols = leb-true _ _ b.1; density = leb-true _ _ c.1 }

kind_small : (i c a : ℕ) → kind_of i c a ≤ 2
unfolding kind_of
kind_small i c a = go (ltb a i) (ltb a (i + c))
  where
    go : (s t : Bool) → elim s [ true ↦ 0 | false ↦ elim t [ true ↦ 1 | false ↦ 2 ] ] ≤ 2
    go true t = omega arith
    go false true = omega arith
    go false false = omega arith

state-small : (n q : ℕ) → state_byte n q ≤ 3
unfolding state_byte
state-small n q = omega (arith, bit-small (eqb q 0), bit-small (eqb (q + 1) n))

first-initial : (n : ℕ) → is_initial (state_byte n 0) ≡ true
unfolding is_initial state_byte bit_of
first-initial n = go (eqb 1 n)
  where
    go : (t : Bool) → eqb ((1 + 2 * bit_of t) % 2) 1 ≡ true
    go true = refl
    go false = refl

each-small : (f : ℕ → ℕ) (n m : ℕ) → ((q : ℕ) → f q ≤ m) → (x : ℕ) → Memᴰ x (map f (upto n)) → x ≤ m
each-small f n m h x d = go (Memᴰ.of_map f (upto n) d)
  where
    go : (q : ℕ) × Memᴰ q (upto n) × (f q ≡ x) → x ≤ m
    go (q, i, e) = subst (λ (y : ℕ). y ≤ m) e (h q)

module _ (g : Load) where
  abbrev all-symbols : ℕ
  all-symbols = g.internals + (g.calls + g.returns)

  -- a possible record fits, where its symbols have the kind
  record_fits_lem :
      (kind w from k : ℕ) → ((a : ℕ) → from ≤ a → a < from + k → (a < all-symbols) × (kind ≡ kind_of g.internals g.calls a)) → (r : List ℕ)
      → Memᴰ r (possible w g.states from k) → record_fits (described g) kind r ≡ true
  unfolding record_fits described
  record_fits_lem kind w from k h r d = go (possible_of w g.states from k r d)
    where
      go : Possible w g.states from k r → record_fits (described g) kind r ≡ true
      go p =
          let a = h p.symbol p.symbol-from p.symbol-below in
          subst (λ x. record_fits (described g) kind x ≡ true) p.same
          (and_of
          (and_of (lt-ltb p.state (length (state_bytes g.states)) (omega (arith, p.state-below, length-states g.states))) (and_of (lt-ltb p.symbol (length (symbol_bytes g.internals g.calls all-symbols)) (omega (arith, a.0, length_symbols g.internals g.calls all-symbols))) (eq-eqb (get_or (symbol_bytes g.internals g.calls all-symbols) p.symbol 0) kind (sym (a.1 ∙ symbol-at g.internals g.calls all-symbols p.symbol a.0)))))
          (subst (λ (n : ℕ). all (λ q. ltb q n) p.others ≡ true) (sym (length-states g.states)) p.states.below))

  wide_of : (w from k m : ℕ) → w - 2 + 2 ≡ m → (r : List ℕ) → Memᴰ r (possible w g.states from k) → length r ≡ m
  wide_of w from k m e r d = let p = possible_of w g.states from k r d in sym (ap length p.same) ∙ omega (arith, p.states.long)

  described-wide : Wide (described g)
  unfolding described possible_internals possible_calls possible_returns
  described-wide = record {
    internals = λ r d. wide_of 3 0 g.internals 3 refl r (present-mem g.density g.seed (possible_internals g) r d);
    calls = λ r d. wide_of 3 g.internals g.calls 3 refl r (present-mem g.density (seed_calls g) (possible_calls g) r d);
    returns = λ r d. wide_of 4 (g.internals + g.calls) g.returns 4 refl r (present-mem g.density (seed_returns g) (possible_returns g) r d);
  }

  module _ (L : Limits) (l : limits_fit L ≡ true) (z : sizes_fit L g.states all-symbols g.density ≡ true) (f : records_few (described g) ≡ true) where
    described_tested : Tested L (described g)
    unfolding described possible_internals possible_calls possible_returns records_few symbol_bytes state_bytes state_byte_most
    described_tested =
        let s = sizes_sized L g.states all-symbols g.density z in
        let a = and-true _ _ f in
        let b = and-true _ _ a.1 in
        record {
          symbols-few = omega (arith, s.symbols, length_symbols g.internals g.calls all-symbols);
          some-state = omega (arith, s.some-state, length-states g.states);
          states-few = omega (arith, s.states, length-states g.states);
          internals-few = leb-true _ _ a.0;
          calls-few = leb-true _ _ b.0;
          returns-few = leb-true _ _ b.1;
          symbol-bytes = each-small (kind_of g.internals g.calls) all-symbols 2 (kind_small g.internals g.calls);
          state-bytes = each-small (state_byte g.states) g.states 3 (state-small g.states);
          initial = any_of is_initial (state_bytes g.states) (get_or (state_bytes g.states) 0 0) (get_d_mem (state_bytes g.states) 0 0 (omega (arith, s.some-state, length-states g.states))) (ap is_initial (sym (state-at g.states 0 s.some-state)) ∙ first-initial g.states);
          internals-fit = λ r d. record_fits_lem 0 3 0 g.internals (λ a i j. (omega arith, kind_internal g.internals g.calls a (omega arith))) r (present-mem g.density g.seed (possible_internals g) r d);
          calls-fit = λ r d. record_fits_lem 1 3 g.internals g.calls (λ a i j. (omega arith, kind_call g.internals g.calls a i j)) r (present-mem g.density (seed_calls g) (possible_calls g) r d);
          returns-fit = λ r d. record_fits_lem 2 4 (g.internals + g.calls) g.returns (λ a i j. (omega arith, kind_return g.internals g.calls a (omega arith) i)) r (present-mem g.density (seed_returns g) (possible_returns g) r d);
          internals-ascend = present_ascends g.density g.seed (possible_internals g) (possible-ascend 3 g.states 0 g.internals);
          calls-ascend = present_ascends g.density (seed_calls g) (possible_calls g) (possible-ascend 3 g.states g.internals g.calls);
          returns-ascend = present_ascends g.density (seed_returns g) (possible_returns g) (possible-ascend 4 g.states (g.internals + g.calls) g.returns);
        }

    described_well_formed : WellFormed L (described g)
    unfolding described version_fits
    described_well_formed = formed_of l refl described-wide described_tested

    pub described-read : Readable L (described_bytes g)
    unfolding described_bytes
    described-read = read-bytes L (described g) described_well_formed

    pub described_table : table_of (described_bytes g) ≡ described g
    unfolding described_bytes
    described_table = table_of-bytes L (described g) described_well_formed
