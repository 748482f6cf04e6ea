-- A table accepts no word that leaves something open, and none ends in a mark, by the bytes of its symbols (document 02, (iv) and (v)).
-- Assumes nothing.
use mathlib.Core.Path.{◌≡◌, refl}
use mathlib.Core.List.{List, [], ◌∷◌, map}
use Prim.Native.Nat.{ℕ}
use native.Mathlib.Omega.{arith}
use Rattle.vpa.specs.Automata.{EndsIn, open_behind, open_after}
use Rattle.vpa.proofs.Calls.{Kinded, accepted-closed, ends-closed}
use Rattle.limits.specs.declared.Limits.{Limits}
use Rattle.table_spec.specs.File.{Table, table_of}
use Rattle.table_spec.specs.Reading.{Readable, WellFormed}
use Rattle.table_spec.specs.Language.{automaton, automaton_of, kind_of, LeavesOpen, AcceptsWord}
use Rattle.table_spec.proofs.Bytes.{read_well_formed}
use Rattle.table_spec.proofs.Facts.{internals-fit, calls-fit, returns-fit}

-- a record's symbol has the kind of the section
pub moves_kinded : {L : Limits} {t : Table} → WellFormed L t → Kinded (automaton t) (kind_of t)
moves_kinded wf = record {
  internals = λ m. ((internals-fit wf).symbol _ m).1;
  calls = λ m. ((calls-fit wf).symbol _ m).1;
  returns = λ m. ((returns-fit wf).symbol _ m).1;
}

pub open_refused : (L : Limits) (b : List ℕ) → Readable L b → (w : List ℕ) → LeavesOpen b w → ¬ AcceptsWord b w
open_refused L b e w o h = absurd (omega (arith, o, accepted-closed (automaton (table_of b)) (kind_of (table_of b)) (moves_kinded (read_well_formed L b e)) h))

pub open_unmarked : (L : Limits) (b : List ℕ) → Readable L b → (w : List ℕ) → LeavesOpen b w → (k : ℕ) → ¬ EndsIn (automaton_of b) k w
open_unmarked L b e w o k h = absurd (omega (arith, o, ends-closed (automaton (table_of b)) (kind_of (table_of b)) (moves_kinded (read_well_formed L b e)) h))

-- nothing, a call, a call that is closed, a return that closes nothing, a call after one, two calls and a return; by the symbols of table T
abbrev words : List (List ℕ)
words = [] ∷ (1 ∷ []) ∷ (1 ∷ 0 ∷ 2 ∷ []) ∷ (2 ∷ []) ∷ (2 ∷ 1 ∷ []) ∷ (1 ∷ 1 ∷ 2 ∷ []) ∷ []

open_examples : map (open_after (λ a. a) 0) words ≡ 0 ∷ 1 ∷ 0 ∷ 0 ∷ 1 ∷ 1 ∷ []
unfolding open_behind open_after
open_examples = refl
