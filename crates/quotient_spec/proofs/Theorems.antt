-- Demands 2 and 3 of the quotient, from the lent bytes to the written ones. Assumes nothing.
use mathlib.Core.Path.{◌≡◌, sym, ap, ◌∙◌, subst}
use mathlib.Core.Logic.{◌↔◌}
use mathlib.Core.List.{List}
use Prim.Native.Nat.{ℕ}
use lib.ListN.{take}
use Rattle.lists.proofs.Refusals.{stage-passed}
use Rattle.vpa.specs.Automata.{Lawful, Accepts, EndsIn}
use Rattle.vpa.specs.Quotients.{quotient}
use Rattle.vpa.proofs.Correspondence.{quotient-words, quotient-marks, every-step}
use Rattle.vpa.proofs.Equal.{Same, same-words, same-marks}
use Rattle.std.specs.Prelude.{Result}
use Rattle.limits.specs.declared.Limits.{Limits}
use Rattle.refusals.specs.declared.Refusal.{Refusal}
use Rattle.refusals.specs.declared.Refusal.TheVariants.{OutputLength}
use Rattle.refusals.specs.Refusals.{Known}
use Rattle.refusals.proofs.Numbers.{known_of, failed_known, none_known}
use Rattle.check_spec.proofs.Answers.{check-known}
use Rattle.table_spec.specs.File.{Table, table_of}
use Rattle.table_spec.specs.Reading.{Readable, WellFormed}
use Rattle.table_spec.specs.Language.{count, automaton, automaton_of, SameWords, SameMarks, OpenByNeither}
use Rattle.table_spec.specs.Maps.{class_of, Proper, RaqMap}
use Rattle.table_spec.proofs.Passed.{formed-wide}
use Rattle.table_spec.proofs.Bytes.{read_well_formed, table_of-bytes, read-bytes}
use Rattle.table_spec.proofs.Open.{open_refused}
use Rattle.tops_spec.proofs.Bounded.{lawful}
use Rattle.tops_spec.proofs.Formed.{bounded}
use Rattle.tops_spec.proofs.Exact.{live-exact}
use Rattle.check_spec.specs.Check.{check_number}
use Rattle.check_spec.proofs.Accepted.{Accepted, accepted}
use Rattle.script_spec.specs.Demands.{SameScripts}
use Rattle.script_spec.proofs.Promises.{scripts-same}
use Rattle.quotient_spec.specs.Quotient.{quotient_table, quotient_bytes, quotient_number, QuotientDone, quotient_of, QuotientSays}
use Rattle.quotient_spec.specs.Demands.{IsQuotient, ShowsSteps, OnWriting, Promises}
use Rattle.quotient_spec.proofs.States.{count-classes}
use Rattle.quotient_spec.proofs.Automaton.{quotient-initial, quotient-accepting, quotient-mark, quotient-internal, quotient-call, quotient-return}
use Rattle.quotient_spec.proofs.Table.{quotient_well_formed}
use Rattle.quotient_spec.proofs.Writing.{on_writing, says_length}

-- the automaton of the quotient's table is the quotient of the automaton
pub table_same : (L : Limits) (t : Table) → WellFormed L t → (m : List ℕ) → Proper t m → RaqMap t m → Same (automaton (quotient_table t m)) (quotient (automaton t) (class_of m))
table_same L t f m p raq =
    let w = formed-wide f in
    record {
      initially = quotient-initial t m w p.long p.in_order;
      finally = quotient-accepting t m w p.long p.in_order;
      marked = quotient-mark t m w p.long p.in_order (λ p q k j. raq.marks j);
      internals = quotient-internal t m w p.long p.in_order;
      calls = quotient-call t m w p.long p.in_order;
      returns = quotient-return t m w p.long p.in_order (live-exact (bounded f));
    }

module _ (L : Limits) (b m : List ℕ) where
  -- the bytes hold the quotient's table
  pub quotient_table_lem : Readable L b → Proper (table_of b) m → table_of (quotient_bytes b m) ≡ quotient_table (table_of b) m
  unfolding quotient_bytes
  quotient_table_lem r p = table_of-bytes L (quotient_table (table_of b) m) (quotient_well_formed L (table_of b) m (read_well_formed L b r) p.long p.in_order)

  -- and so, of a map that the check accepts, the quotient of the automaton
  bytes_same : Accepted L b m → Same (automaton_of (quotient_bytes b m)) (quotient (automaton_of b) (class_of m))
  bytes_same a =
      subst (λ (t : Table). Same (automaton t) (quotient (automaton_of b) (class_of m))) (sym (quotient_table_lem a.readable a.proper))
      (table_same L (table_of b) (read_well_formed L b a.readable) m a.proper a.raq)

  -- demand 2: the written table is the paper's quotient
  pub is_quotient : check_number L b m ≡ 0 → IsQuotient L b m (quotient_bytes b m)
  unfolding quotient_bytes quotient_table
  is_quotient c =
      let a = accepted L b m c in
      let e = quotient_table_lem a.readable a.proper in
      let s = bytes_same a in
      record {
        readable = read-bytes L (quotient_table (table_of b) m) (quotient_well_formed L (table_of b) m (read_well_formed L b a.readable) a.proper.long a.proper.in_order);
        version = ap (λ (t : Table). t.version) e;
        symbols = ap (λ (t : Table). t.symbols) e;
        states = ap (λ (t : Table). count t) e ∙ count-classes (table_of b) m;
        initial = s.initially;
        accepting = s.finally;
        marks = s.marked;
        internals = s.internals;
        calls = s.calls;
        returns = s.returns;
      }

  -- the automaton of the lent bytes names states only
  lawful_bytes : Accepted L b m → Lawful (automaton_of b)
  lawful_bytes a = lawful (bounded (read_well_formed L b a.readable))

  -- demand 3: the same words, for every map that the check accepts
  pub keeps-words : check_number L b m ≡ 0 → SameWords b (quotient_bytes b m)
  keeps-words e = record { each = λ w. (λ h. (same w).1 ((exact w).0 h), λ h. (exact w).1 ((same w).0 h)) }
    where
      exact : (w : List ℕ) → Accepts (automaton_of b) w ↔ Accepts (quotient (automaton_of b) (class_of m)) w
      exact = let a = accepted L b m e in quotient-words (automaton_of b) (class_of m) (lawful_bytes a) a.raq

      same : (w : List ℕ) → Accepts (automaton_of (quotient_bytes b m)) w ↔ Accepts (quotient (automaton_of b) (class_of m)) w
      same = same-words (bytes_same (accepted L b m e))

  -- request (v): for each mark the same words that end in a state of it
  pub keeps-marks : check_number L b m ≡ 0 → SameMarks b (quotient_bytes b m)
  keeps-marks e = record { each = λ k w. (λ h. (same k w).1 ((exact k w).0 h), λ h. (exact k w).1 ((same k w).0 h)) }
    where
      exact : (k : ℕ) (w : List ℕ) → EndsIn (automaton_of b) k w ↔ EndsIn (quotient (automaton_of b) (class_of m)) k w
      exact = let a = accepted L b m e in quotient-marks (automaton_of b) (class_of m) (lawful_bytes a) a.raq

      same : (k : ℕ) (w : List ℕ) → EndsIn (automaton_of (quotient_bytes b m)) k w ↔ EndsIn (quotient (automaton_of b) (class_of m)) k w
      same = same-marks (bytes_same (accepted L b m e))

  -- request (iv): a word that leaves something open is accepted by neither
  pub open_neither : check_number L b m ≡ 0 → OpenByNeither b (quotient_bytes b m)
  open_neither e = record {
    each = λ w o.
        let n = open_refused L b (accepted L b m e).readable w o in
        (n, λ h. n (((keeps-words e).each w).1 h));
  }

  -- request (xii): at every step, for every map that the check accepts
  pub keeps-steps : check_number L b m ≡ 0 → ShowsSteps b m (quotient_bytes b m)
  keeps-steps e =
      let a = accepted L b m e in
      every-step (automaton_of b) (class_of m) (lawful_bytes a) a.raq (bytes_same a)

  -- request (i): one answer to every script, number included
  pub keeps-scripts : check_number L b m ≡ 0 → SameScripts L b (quotient_bytes b m)
  keeps-scripts e =
      let q = is_quotient e in
      scripts-same L b (quotient_bytes b m) (accepted L b m e).readable q.readable (sym q.symbols) (keeps-words e)

  -- ---- the operation

  pub number-checked : (out : List ℕ) → quotient_number L b m out ≡ 0 → check_number L b m ≡ 0
  unfolding quotient_number
  number-checked out e = (stage-passed _ _ e).0

  -- what holds of the quotient's bytes wherever the check accepts holds of what is written
  writes : (P : List ℕ → Type 0) → (check_number L b m ≡ 0 → P (quotient_bytes b m)) → (out : List ℕ) → OnWriting (quotient_of L b m out).answer (λ n. P (take n (quotient_of L b m out).out))
  unfolding quotient_of
  writes P h out = on_writing (quotient_number L b m out) (quotient_bytes b m) out P (λ z. h (number-checked out z))

  pub promises : (out : List ℕ) → Promises L b m (quotient_of L b m out).answer (quotient_of L b m out).out
  promises out = record {
    exact = writes (IsQuotient L b m) is_quotient out;
    words = writes (SameWords b) keeps-words out;
    none_open = writes (OpenByNeither b) open_neither out;
    steps = writes (ShowsSteps b m) keeps-steps out;
    marks = writes (SameMarks b) keeps-marks out;
    same = writes (SameScripts L b) keeps-scripts out;
  }

  pub quotient-known : (out : List ℕ) → Known (quotient_number L b m out)
  unfolding quotient_number
  quotient-known out = failed_known _ _ (check-known L b m) (failed_known _ _ (known_of OutputLength) none_known)

  numbered : (out : List ℕ) → QuotientSays L b m out (quotient_of L b m out).answer
  unfolding quotient_of
  numbered out = says_length (quotient_number L b m out) (quotient_bytes b m) out (quotient-known out)

  -- the contract, from its equation
  pub promised : (out : List ℕ) {r : Result ℕ Refusal} {now : List ℕ} → record { answer = r; out = now } ≡ quotient_of L b m out
      → (record { answer = r; out = now } ≡ quotient_of L b m out) × (QuotientSays L b m out r × Promises L b m r now)
  promised out e = (e, subst (λ (d : QuotientDone). QuotientSays L b m out d.answer × Promises L b m d.answer d.out) (sym e) (numbered out, promises out))
