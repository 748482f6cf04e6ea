-- The parts of a read table that are handed on: one law for each way to a return of src/, and the sections that they are. Assumes nothing.
use mathlib.Core.Path.{◌≡◌, sym, ap, ◌∙◌}
use mathlib.Core.List.{List, [], ◌∷◌}
use Prim.Native.Nat.{ℕ, zero, suc, ◌-◌, ◌≤◌, ◌<◌}
use native.Mathlib.Nat.{sub-zero, suc-sub-suc}
use native.Mathlib.Omega.{arith}
use lib.ListN.{length, get_or, take, drop, length-take, drop_of_length-le, get_or-eq_default}
use lib.Seq.{slice, take-nil, take_all, drop-length}
use Rattle.limits.specs.declared.Limits.{Limits}
use Rattle.table_spec.specs.File.{trailer, start, records, table_of}
use Rattle.table_spec.specs.Reading.{starts_of}
use Rattle.table_spec.specs.declared.Starts.{Starts}
use Rattle.table_view.specs.Sections.{ReadAs, part_of, state_byte}
use Rattle.table_view.specs.declared.Section.{Section}
use Rattle.table_view.specs.declared.Section.TheVariants.{Symbols, States, Internals, Calls, Returns}

-- ---- the bytes from one place up to another, as far as they are there

-- a part of a slice as the code takes it
pub part : (f t : ℕ) (b : List ℕ) → f ≤ t → take (t - f) (drop f b) ≡ slice f t b
part zero t b h = ap (λ n. take n b) (sub-zero t)
part (suc f) zero b h = absurd (omega arith)
part (suc f) (suc t) [] h = rw take-nil
part (suc f) (suc t) (x ∷ b) h = rw suc-sub-suc (part f t b (omega arith))

none : (b : List ℕ) → take (length b - length b) (drop (length b) b) ≡ []
none b = ap (take (length b - length b)) (drop-length b) ∙ take-nil (length b - length b)

module _ (f t : ℕ) (b : List ℕ) where
  pub past_end : length b ≤ f → take (length b - length b) (drop (length b) b) ≡ slice f t b
  past_end h = none b ∙ sym (drop_of_length-le (take t b) {i = f} (omega (arith, length-take t b)))

  pub ends-first : t ≤ f → take (length b - length b) (drop (length b) b) ≡ slice f t b
  ends-first h = none b ∙ sym (drop_of_length-le (take t b) {i = f} (omega (arith, length-take t b)))

  pub up_to_end : f < length b → length b ≤ t → take (length b - f) (drop f b) ≡ slice f t b
  up_to_end h k = part f (length b) b (omega arith) ∙ ap (drop f) (take_all (length b) b (omega arith) ∙ sym (take_all t b k))

  pub inside : f < t → take (t - f) (drop f b) ≡ slice f t b
  inside h = part f t b (omega arith)

-- ---- which section

module _ (b : List ℕ) (s : Starts) (w : Section) where
  pub of_symbols : w ≡ Symbols → slice s.symbols s.states b ≡ part_of b s w
  unfolding part_of
  of_symbols e = ap (part_of b s) (sym e)

  pub of_states_lem : w ≡ States → slice s.states s.internals b ≡ part_of b s w
  unfolding part_of
  of_states_lem e = ap (part_of b s) (sym e)

  pub of_internals : w ≡ Internals → slice s.internals s.calls b ≡ part_of b s w
  unfolding part_of
  of_internals e = ap (part_of b s) (sym e)

  pub of_calls : w ≡ Calls → slice s.calls s.returns b ≡ part_of b s w
  unfolding part_of
  of_calls e = ap (part_of b s) (sym e)

  pub of_returns : {end : ℕ} → end ≡ trailer b → w ≡ Returns → slice s.returns end b ≡ part_of b s w
  unfolding part_of
  of_returns h e = ap (λ n. slice s.returns n b) h ∙ ap (part_of b s) (sym e)

-- ---- a state's byte

module _ (b : List ℕ) (s : Starts) (q : ℕ) {x : List ℕ} (e : x ≡ part_of b s States) where
  pub state-there : get_or x q 0 ≡ state_byte b s q
  unfolding state_byte
  state-there = ap (λ y. get_or y q 0) e

  pub state-past : length x ≤ q → 0 ≡ state_byte b s q
  unfolding state_byte
  state-past h = sym (get_or-eq_default x 0 {n = q} h) ∙ state-there

-- ---- the parts at the starts that reading answers

module _ (b : List ℕ) {s : Starts} (e : s ≡ starts_of b) where
  pub symbols-at : part_of b s Symbols ≡ slice (start b 0) (start b 1) b
  unfolding part_of starts_of
  symbols-at = ap (λ u. part_of b u Symbols) e

  pub states-at : part_of b s States ≡ slice (start b 1) (start b 2) b
  unfolding part_of starts_of
  states-at = ap (λ u. part_of b u States) e

  pub internals-at : part_of b s Internals ≡ slice (start b 2) (start b 3) b
  unfolding part_of starts_of
  internals-at = ap (λ u. part_of b u Internals) e

  pub calls_at : part_of b s Calls ≡ slice (start b 3) (start b 4) b
  unfolding part_of starts_of
  calls_at = ap (λ u. part_of b u Calls) e

  pub returns-at : part_of b s Returns ≡ slice (start b 4) (trailer b) b
  unfolding part_of starts_of
  returns-at = ap (λ u. part_of b u Returns) e

-- ---- the sections of a read table

module _ {L : Limits} {b : List ℕ} {s : Starts} (h : ReadAs L b s) {x : List ℕ} where
  pub symbols-read : x ≡ part_of b s Symbols → x ≡ (table_of b).symbols
  unfolding table_of
  symbols-read e = e ∙ symbols-at b h.starts

  pub states-read : x ≡ part_of b s States → x ≡ (table_of b).states
  unfolding table_of
  states-read e = e ∙ states-at b h.starts

  pub internals-read : x ≡ part_of b s Internals → records 3 x ≡ (table_of b).internals
  unfolding table_of
  internals-read e = ap (records 3) (e ∙ internals-at b h.starts)

  pub calls-read : x ≡ part_of b s Calls → records 3 x ≡ (table_of b).calls
  unfolding table_of
  calls-read e = ap (records 3) (e ∙ calls_at b h.starts)

  pub returns-read : x ≡ part_of b s Returns → records 4 x ≡ (table_of b).returns
  unfolding table_of
  returns-read e = ap (records 4) (e ∙ returns-at b h.starts)
