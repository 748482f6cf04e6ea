-- A read table's sections as they are handed on. Assumes nothing.
use mathlib.Core.Path.{◌≡◌, refl, sym, ap, ◌∙◌}
use mathlib.Core.Bool.{Bool, false}
use mathlib.Core.List.{List, [], ◌∷◌}
use mathlib.Core.Option.{Option, none, some}
use Prim.Native.Nat.{ℕ, zero, suc, ◌≤◌}
use native.Mathlib.Omega.{arith}
use lib.ListN.{length, get_or}
use borrow.Author.Tests.{not-true}
use Rattle.lists.specs.Lists.{first_failed}
use Rattle.lists.proofs.Refusals.{passed}
use Rattle.limits.specs.Limits.{symbol_most}
use Rattle.refusals.specs.declared.Refusal.{Refusal}
use Rattle.refusals.specs.declared.Refusal.TheVariants.{ScriptSymbol, OpenCalls}
use Rattle.refusals.specs.Refusals.{number_of, tested}
use Rattle.refusals.proofs.Numbers.{known_of, failed_known, none_known, was_ok, was_refused}
use Rattle.std.specs.Prelude.{Ok, Err}
use Rattle.limits.proofs.Within.{limits-within}
use Rattle.table_spec.specs.File.{Table, table_of}
use Rattle.table_spec.specs.declared.Starts.{Starts}
use Rattle.table_spec.proofs.Bytes.{read_well_formed}
use Rattle.table_spec.proofs.Passed.{formed_tested}
use Rattle.table_view.specs.Sections.{sectioned, part_of, HasRead}
use Rattle.table_view.specs.declared.Section.TheVariants.{Symbols, States, Internals, Calls, Returns}
use Rattle.table_view.proofs.Parts.{symbols-read, states-read, internals-read, calls-read, returns-read}
use Rattle.tops_spec.specs.Tops.{start_words}
use Rattle.script_spec.specs.Script.{Levels, behind, ended, reads, started, script_tests}
use Rattle.script.specs.Parts.{Fits, sections_read}

-- what is read does not hang on the version
module _ (v u : ℕ) (symbols states internals calls returns : List ℕ) where
  abbrev of : ℕ → Table
  of version = sectioned version symbols states internals calls returns

  version-behind : (a k : ℕ) (l : Levels) → behind (of v) a k l ≡ behind (of u) a k l
  unfolding behind sectioned
  version-behind a zero l = refl
  version-behind a (suc zero) l = refl
  version-behind a (suc (suc k)) l = refl

  version_levels : (w : List ℕ) (l : Levels) → reads (of v) l w ≡ reads (of u) l w
  unfolding reads sectioned ended
  version_levels [] l = refl
  version_levels (a ∷ w) l = go (version_levels w) (version-behind a (get_or symbols a 0) l)
    where
      by : ℕ → Option Levels → Bool
      by version o = elim o [ none ↦ false | some k ↦ reads (of version) k w ]

      go : ((l : Levels) → reads (of v) l w ≡ reads (of u) l w) → {o p : Option Levels} → o ≡ p → by v o ≡ by u p
      go ih {o} {p} e = ap (by v) e ∙ told ih p
        where
          told : ((l : Levels) → reads (of v) l w ≡ reads (of u) l w) → (o : Option Levels) → by v o ≡ by u o
          told ih none = refl
          told ih (some k) = ih k

  version-read : (w : List ℕ) → reads (of v) (started (of v)) w ≡ reads (of u) (started (of u)) w
  unfolding started start_words sectioned
  version-read w = version_levels w _

module _ (b : List ℕ) {s : Starts} (h : HasRead b s) {symbols states internals calls returns : List ℕ}
    (e0 : symbols ≡ part_of b s Symbols) (e1 : states ≡ part_of b s States) (e2 : internals ≡ part_of b s Internals) (e3 : calls ≡ part_of b s Calls) (e4 : returns ≡ part_of b s Returns) where
  -- a table that was read has at most 64 symbols
  pub parts-symbols : length symbols ≤ symbol_most
  parts-symbols =
      let wf = read_well_formed h.limits b h.known.readable in
      omega (arith, ap length (symbols-read h.known e0), (formed_tested wf).symbols-few, (limits-within wf.limits).symbols)

  -- the table of the parts is the file's
  parts_table : sectioned (table_of b).version symbols states internals calls returns ≡ table_of b
  unfolding sectioned
  parts_table =
      let r = h.known in
      λ i. record { version = (table_of b).version; symbols = symbols-read r e0 i; states = states-read r e1 i; internals = internals-read r e2 i; calls = calls-read r e3 i; returns = returns-read r e4 i }

  pub parts-read : (w : List ℕ) → sections_read symbols states internals calls returns w ≡ reads (table_of b) (started (table_of b)) w
  unfolding sections_read
  parts-read w = version-read 0 (table_of b).version symbols states internals calls returns w ∙ ap (λ t. reads t (started t) w) parts_table

-- what the tests of a script give
pub test_refused : (symbols w : List ℕ) {r : Refusal} → Err r ≡ tested (first_failed (script_tests symbols w)) → first_failed (script_tests symbols w) ≡ number_of r
unfolding script_tests
test_refused symbols w e = was_refused tt (failed_known _ _ (known_of ScriptSymbol) (failed_known _ _ (known_of OpenCalls) none_known)) (sym e)

pub test_passed : (symbols w : List ℕ) {u : Unit {0}} → Ok u ≡ tested (first_failed (script_tests symbols w)) → first_failed (script_tests symbols w) ≡ 0
test_passed symbols w e = (was_ok tt (sym e)).0

-- neither 30 nor 31
pub tests_fit : (symbols w : List ℕ) → first_failed (script_tests symbols w) ≡ 0 → Fits symbols w
unfolding script_tests
tests_fit symbols w e =
    let p = passed 30 _ _ (λ z. absurd (omega arith)) e in
    let q = passed 31 _ _ (λ z. absurd (omega arith)) p.1 in
    record { known = p.0; shallow = not-true _ q.0 }
