-- The sections of bytes that are readable, and the answer that they give. Assumes nothing.
use mathlib.Core.Path.{◌≡◌, refl, sym, ap, subst, ◌∙◌}
use mathlib.Core.Bool.{Bool, true, false}
use mathlib.Core.List.{List, [], ◌++◌}
use Prim.Native.Nat.{ℕ, zero, suc, ◌-◌, ◌*◌, ◌%◌}
use native.Mathlib.Omega.{arith}
use lib.ListN.{length, replicate}
use lib.Seq.{slice}
use Rattle.std.specs.Prelude.{Result, Ok, Err}
use Rattle.lists.specs.Lists.{same}
use Rattle.lists.specs.Bits.{ones_over}
use Rattle.limits.specs.declared.Limits.{Limits}
use Rattle.refusals.specs.declared.Refusal.{Refusal}
use Rattle.refusals.specs.Refusals.{number_of}
use Rattle.refusals.proofs.Numbers.{refused_by, ok_by}
use Rattle.limits.specs.Limits.{state_most}
use Rattle.table_spec.specs.File.{Table, trailer, start, table_of}
use Rattle.table_spec.specs.Reading.{read_number, Readable, read_of}
use Rattle.table_spec.specs.declared.Starts.{Starts}
use Rattle.table_spec.proofs.Passed.{ReadPasses, read-passed}
use Rattle.table_spec.proofs.Bytes.{length-between, length_from, read_well_formed}
use Rattle.table_spec.proofs.Facts.{internals-fit, calls-fit, returns-fit, most-states}
use Rattle.table_view.specs.Sections.{sectioned, part_of, HasRead}
use Rattle.table_view.specs.declared.Section.TheVariants.{States, Internals, Calls, Returns}
use Rattle.table_view.proofs.Parts.{states-at, internals-at, calls_at, returns-at}
use Rattle.table_view.proofs.Handed.{read_as, read_refused}
use Rattle.tops_spec.specs.Tops.{round, rounds, start_words, top_words, top_words_at, top_count, tops_of, TopsSays}
use Rattle.tops_spec.specs.Demands.{TopsExact}
use Rattle.tops_spec.specs.declared.TopWords.{TopWords}
use Rattle.tops_spec.proofs.Theorems.{tops-exact, tops-says}
use Rattle.tops.specs.Steps.{StateParts, tops_found, examined_of}

-- ---- the tops do not look at the version and the symbols

module _ (states : List ℕ) (internals calls returns : List (List ℕ)) where
  abbrev pub headed : ℕ × List ℕ → Table
  headed h = record { version = h.0; symbols = h.1; states = states; internals = internals; calls = calls; returns = returns }

  rounds-alike : (y z : ℕ × List ℕ) (n : ℕ) (f : List ℕ) → rounds n (headed y) f ≡ rounds n (headed z) f
  unfolding rounds round
  rounds-alike y z zero f = refl
  rounds-alike y z (suc n) f = go (same (round (headed y) f) f) (rounds-alike y z n (round (headed y) f))
    where
      go : (b : Bool) → rounds n (headed y) (round (headed y) f) ≡ rounds n (headed z) (round (headed z) f)
          → ◌≡◌ {A = List ℕ} (elim b [ true ↦ f | false ↦ rounds n (headed y) (round (headed y) f) ]) (elim b [ true ↦ f | false ↦ rounds n (headed z) (round (headed z) f) ])
      go true h = refl
      go false h = h

  pub words-alike : (y z : ℕ × List ℕ) → top_words (headed y) ≡ top_words (headed z)
  unfolding top_words_at start_words
  words-alike y z = ap (λ f. f ++ replicate (state_most - length states) 0) (rounds-alike y z (suc (length states * suc (length states))) (start_words state_most (headed y)))

  pub found_alike : (y z : ℕ × List ℕ) → tops_found (headed y) ≡ tops_found (headed z)
  unfolding tops_found top_count
  found_alike y z = let e = words-alike y z in λ i. record { words = e i; found = ones_over (suc state_most) (e i) }

-- ---- the sections

module _ (L : Limits) (b : List ℕ) (readable : Readable L b) where
  p : ReadPasses L b
  p = read-passed L b readable

  pub sections_read_lem : StateParts (slice (start b 1) (start b 2) b) (slice (start b 2) (start b 3) b) (slice (start b 3) (start b 4) b) (slice (start b 4) (trailer b) b)
  unfolding table_of
  sections_read_lem =
      let wf = read_well_formed L b readable in
      record {
        few = most-states wf;
        internals-whole = record { whole = ap (λ n. n % 3) (length-between b 2 3 p.framed.falls_3 (omega (arith, p))) ∙ p.framed.threes_2; states = (internals-fit wf).states };
        calls-whole = record { whole = ap (λ n. n % 3) (length-between b 3 4 p.framed.falls_4 (omega (arith, p))) ∙ p.framed.threes_3; states = (calls-fit wf).states };
        returns-whole = record { whole = ap (λ n. n % 4) (length_from b 4 (omega (arith, p))) ∙ p.framed.fours_4; states = (returns-fit wf).states };
      }

-- the answer is that of the sections
pub tops-read :
    (b : List ℕ)
    → tops_found (sectioned 0 [] (slice (start b 1) (start b 2) b) (slice (start b 2) (start b 3) b) (slice (start b 3) (start b 4) b) (slice (start b 4) (trailer b) b)) ≡ tops_found (table_of b)
unfolding table_of sectioned
tops-read b = let t = table_of b in found_alike t.states t.internals t.calls t.returns (0, []) (t.version, t.symbols)

-- ---- as the code takes them: the parts that the starts give

module _ (b : List ℕ) {s : Starts} (h : HasRead b s) {states internals calls returns : List ℕ}
    (e1 : states ≡ part_of b s States) (e2 : internals ≡ part_of b s Internals) (e3 : calls ≡ part_of b s Calls) (e4 : returns ≡ part_of b s Returns) where
  pub parts_sections : StateParts states internals calls returns
  parts_sections = let starts = h.known.starts in rw (e1 ∙ states-at b starts, e2 ∙ internals-at b starts, e3 ∙ calls_at b starts, e4 ∙ returns-at b starts) (sections_read_lem h.limits b h.known.readable)

  pub parts-tops : tops_found (sectioned 0 [] states internals calls returns) ≡ tops_found (table_of b)
  parts-tops = let starts = h.known.starts in rw (e1 ∙ states-at b starts, e2 ∙ internals-at b starts, e3 ∙ calls_at b starts, e4 ∙ returns-at b starts) (tops-read b)

-- ---- the answer with the starts

module _ (L : Limits) (b : List ℕ) where
  pub read-handed : {s : Starts} → Ok s ≡ read_of L b → HasRead b s
  read-handed {s} e = record { limits = L; known = read_as L b s (sym e) }

  -- what is handed on are its starts and tops
  pub examined : {s : Starts} {t : TopWords} → Ok s ≡ read_of L b → t ≡ tops_found (table_of b) → Ok (record { starts = s; words = t.words; found = t.found }) ≡ examined_of L b
  unfolding examined_of tops_found
  examined {s} {t} e f =
      let r = read_as L b s (sym e) in
      (λ i. Ok (record { starts = r.starts i; words = (f i).words; found = (f i).found })) ∙ ok_by _ r.readable

  pub examined_err : {r : Refusal} → read_number L b ≡ number_of r → Err r ≡ examined_of L b
  unfolding examined_of
  examined_err e = refused_by _ e

  pub examined_refused : {r : Refusal} → Err r ≡ read_of L b → read_number L b ≡ number_of r
  examined_refused {r} e = read_refused L b r (sym e)

  -- the tops alone
  pub tops-promised : {r : Result TopWords Refusal} → r ≡ tops_of L b → (r ≡ tops_of L b) × TopsExact L b r
  tops-promised e = (e, subst (TopsExact L b) (sym e) (tops-exact L b))

  pub tops_told : {r : Result TopWords Refusal} → r ≡ tops_of L b → TopsSays L b r
  tops_told e = subst (TopsSays L b) (sym e) (tops-says L b)

  pub tops-answer : {x : TopWords} → Readable L b → x.words ≡ top_words (table_of b) → x.found ≡ top_count (table_of b) → Ok x ≡ tops_of L b
  unfolding tops_of
  tops-answer h e f = (λ i. Ok (record { words = e i; found = f i })) ∙ ok_by _ h

  pub tops_refused : {r : Refusal} → read_number L b ≡ number_of r → Err r ≡ tops_of L b
  unfolding tops_of
  tops_refused e = refused_by _ e

  -- of a table as it is read
  pub tops-read_answer : {s : Starts} {t : TopWords} → Ok s ≡ read_of L b → t ≡ tops_found (table_of b) → Ok t ≡ tops_of L b
  unfolding tops_of tops_found
  tops-read_answer {s} {t} e f = ap {B = Result TopWords Refusal} (λ x. Ok x) f ∙ ok_by _ (read_as L b s (sym e)).readable

  pub tops-unread : {r : Refusal} → Err r ≡ read_of L b → Err r ≡ tops_of L b
  unfolding tops_of
  tops-unread {r} e = refused_by _ (read_refused L b r (sym e))
