-- The table described written by its keys, and the operation: one law for each way to a return of src/. Assumes nothing.
use Rattle.std.proofs.Common.{◌≡◌, ℕ, ◌+◌, ◌*◌, ◌<◌, ◌≤◌, Bool, true, false, leb, List, length, take, drop, sym, refl, ap, ◌∙◌, arith, take_at, le-leb}
use borrow.Author.Tests.{lt-leb}
use Rattle.lists.specs.Lists.{over}
use Rattle.lists.proofs.Refusals.{passes, fails, no_test, not_refused}
use Rattle.limits.specs.declared.Limits.{Limits}
use Rattle.limits.specs.Limits.{limits_fit}
use Rattle.limits.proofs.Within.{limits-within}
use Rattle.table_spec.specs.File.{bytes_of}
use Rattle.std.specs.Prelude.{Ok, Err}
use Rattle.refusals.specs.declared.Refusal.{Refusal}
use Rattle.refusals.specs.declared.Refusal.TheVariants.{LimitsRange, OutputLength, Load as LoadSizes, LoadRecords}
use Rattle.refusals.specs.Refusals.{number_of}
use Rattle.refusals.proofs.Numbers.{refuses_by}
use Rattle.table_write.specs.Keys.{Holds}
use Rattle.table_write.specs.Tables.{keyed_table, written_for}
use Rattle.table_write.proofs.Whole.{bytes-long}
use Rattle.generate_spec.specs.Loads.{Load, symbol_bytes, state_bytes, described, described_bytes, sizes_fit, records_few, generate_number, generate_of}
use Rattle.generate.specs.Counts.{Counts, drawn_for}
use Rattle.generate_spec.proofs.Bytes.{length_symbols, length-states}
use Rattle.generate_spec.proofs.Described.{sizes_sized}

-- bytes put to the front of a buffer
pub put_front : (xs old : List ℕ) (n : ℕ) {now : List ℕ} → length xs ≡ n → now ≡ over xs old → Holds now n xs
unfolding over
put_front xs old n l e = record { count = sym l; same = ap (take n) e ∙ take_at xs (drop (length xs) old) n l }

-- ---- by keys

module _ (n i c k : ℕ) (xs ys zs : List ℕ) where
  abbrev keyed : List ℕ
  keyed = bytes_of (keyed_table 1 (symbol_bytes i c k) (state_bytes n) xs ys zs)

  abbrev size : ℕ
  size = k + n + (3 * length xs + 3 * length ys + 4 * length zs) + 12

  whole : length keyed ≡ size
  whole = omega (arith, bytes-long 1 (symbol_bytes i c k) (state_bytes n) xs ys zs, length_symbols i c k, length-states n)

  pub short : (out : List ℕ) → length out < size → record { answer = Err OutputLength; out = out } ≡ written_for keyed out
  unfolding written_for
  short out h = sym (rw (lt-leb (length keyed) (length out) (omega (arith, whole)), written_for))

  module _ {us vs : List ℕ} (u : Holds us k (symbol_bytes i c k)) (v : Holds vs n (state_bytes n)) (out : List ℕ) (h : size ≤ length out) where
    same_bytes : bytes_of (keyed_table 1 (take k us) (take n vs) xs ys zs) ≡ keyed
    same_bytes = λ j. bytes_of (keyed_table 1 (u.same j) (v.same j) xs ys zs)

    pub room : length (bytes_of (keyed_table 1 (take k us) (take n vs) xs ys zs)) ≤ length out
    room = omega (arith, ap length same_bytes, whole)

    pub put : {out' : List ℕ} → out' ≡ over (bytes_of (keyed_table 1 (take k us) (take n vs) xs ys zs)) out → record { answer = Ok size; out = out' } ≡ written_for keyed out
    unfolding written_for
    put p = sym (rw (le-leb (length keyed) (length out) (omega (arith, whole)), written_for) (λ j. record { answer = Ok (whole j); out = sym (p ∙ ap (λ x. over x out) same_bytes) j }))

-- ---- the operation

module _ (L : Limits) (g : Load) (out : List ℕ) where
  abbrev few : Bool
  few = records_few (described g)

  abbrev symbols : ℕ
  symbols = g.internals + (g.calls + g.returns)

  refused : {r : Refusal} → generate_number L g out ≡ number_of r → record { answer = Err r; out = out } ≡ generate_of L g out
  unfolding generate_of
  refused e = refuses_by (λ r. record { answer = Err r; out = out }) _ e

  pub no_limits : limits_fit L ≡ false → record { answer = Err LimitsRange; out = out } ≡ generate_of L g out
  unfolding generate_number
  no_limits e = refused (fails 39 _ e)

  module _ (l : limits_fit L ≡ true) where
    pub no_sizes : sizes_fit L g.states symbols g.density ≡ false → record { answer = Err LoadSizes; out = out } ≡ generate_of L g out
    unfolding generate_number
    no_sizes e = refused (passes 39 _ l ∙ fails 35 _ e)

    module _ (z : sizes_fit L g.states symbols g.density ≡ true) where
      pub small : Counts g.states symbols
      small = let s = sizes_sized L g.states symbols g.density z in let w = limits-within l in record { some-state = s.some-state; states-few = omega (arith, s.states, w.states); symbols-few = omega (arith, s.symbols, w.symbols) }

      last : (t s : Bool) → few ≡ t → leb (length (described_bytes g)) (length out) ≡ s → drawn_for g out ≡ generate_of L g out
      unfolding drawn_for written_for generate_number generate_of
      last true true e f =
          rw (e, f, drawn_for, written_for) (not_refused (generate_number L g out) _ _ (passes 39 _ l ∙ passes 35 _ z ∙ passes 36 _ e ∙ passes 21 _ f ∙ no_test))
      last true false e f =
          rw (e, f, drawn_for, written_for) (refused {r = OutputLength} (passes 39 _ l ∙ passes 35 _ z ∙ passes 36 _ e ∙ fails 21 _ f))
      last false s e f =
          rw (e, drawn_for) (refused {r = LoadRecords} (passes 39 _ l ∙ passes 35 _ z ∙ fails 36 _ e))

      pub drawn : drawn_for g out ≡ generate_of L g out
      drawn = last few (leb (length (described_bytes g)) (length out)) refl refl
