-- The clause list of a table that was read: its groups one after the other, its sections as parts of the file, and its answer. Assumes nothing.
use mathlib.Core.Path.{◌≡◌, refl, sym, ap, ◌∙◌}
use mathlib.Core.Bool.{Bool, true, false}
use mathlib.Core.List.{List, ◌++◌, append-nil}
use Prim.Native.Nat.{ℕ}
use lib.ListN.{length}
use lib.Seq.{slice}
use lib.Dec.{leb}
use Rattle.lists.proofs.Refusals.{passes, fails, no_test, stage-passes, stage_fails, not_refused}
use Rattle.cnf.specs.Clauses.{words_of}
use Rattle.limits.specs.declared.Limits.{Limits}
use Rattle.refusals.specs.declared.Refusal.{Refusal}
use Rattle.refusals.specs.declared.Refusal.TheVariants.{ListLength}
use Rattle.refusals.specs.Refusals.{number_of}
use Rattle.refusals.proofs.Numbers.{some_number, refuses_by}
use Rattle.std.specs.Prelude.{Result, Err}
use Rattle.table_spec.specs.File.{trailer, start, table_of, records, of_states}
use Rattle.table_spec.specs.Reading.{read_number, Readable, starts_of}
use Rattle.table_spec.specs.declared.Starts.{Starts}
use Rattle.table_view.specs.Sections.{part_of}
use Rattle.table_view.specs.declared.Section.TheVariants.{States, Internals, Calls, Returns}
use Rattle.table_view.proofs.Parts.{states-at, internals-at, calls_at, returns-at}
use Rattle.tops_spec.specs.Tops.{top_words, live_returns}
use Rattle.check_map.specs.Known.{Known}
use Rattle.clauses_spec.specs.declared.Listed.{Listed}
use Rattle.clauses_spec.specs.Clauses.{look_clauses, transitivity, move_clauses, return_clauses, clause_list, short_list, clause_words, clauses_number, clauses_of}
use Rattle.clauses_emit.specs.Emit.{State, emit}
use Rattle.clauses_records.specs.Returns.{return_clauses_by}
use Rattle.clauses.specs.Whole.{list_for, closure_for, list_by, listed_by}
use Rattle.clauses_emit.proofs.Emitting.{emit-append}

-- ---- group 2, where the list is to be whole

pub closure_left : {whole : Bool} (states : List ℕ) (s : State) → whole ≡ false → s ≡ emit (closure_for whole (of_states states)) s
unfolding emit
closure_left states s e = rw e refl

pub closure_there : {whole : Bool} (states : List ℕ) (s : State) {s' : State} → whole ≡ true → s' ≡ emit (transitivity (of_states states)) s → s' ≡ emit (closure_for whole (of_states states)) s
closure_there states s e h = rw e h

-- ---- the groups in their order

pub groups : (whole : Bool) (states internals calls returns tops : List ℕ) (s : State) {s1 s2 s3 s4 s5 : State}
    → s1 ≡ emit (look_clauses (of_states states)) s → s2 ≡ emit (closure_for whole (of_states states)) s1
    → s3 ≡ emit (move_clauses (records 3 internals) (length states)) s2 → s4 ≡ emit (move_clauses (records 3 calls) (length states)) s3
    → s5 ≡ emit (return_clauses_by tops (records 4 returns) (length states)) s4
    → s5 ≡ emit (list_by whole states internals calls returns tops) s
unfolding list_by
groups whole states internals calls returns tops s e1 e2 e3 e4 e5 =
    let look = look_clauses (of_states states) in
    let close = closure_for whole (of_states states) in
    let in-moves = move_clauses (records 3 internals) (length states) in
    let call-moves = move_clauses (records 3 calls) (length states) in
    let pops = return_clauses_by tops (records 4 returns) (length states) in
    e5
    ∙ ap (emit pops) (e4 ∙ ap (emit call-moves) (e3 ∙ ap (emit in-moves) (e2 ∙ ap (emit close) e1 ∙ sym (emit-append look close s)) ∙ sym (emit-append (look ++ close) in-moves s)) ∙ sym (emit-append (look ++ close ++ in-moves) call-moves s))
    ∙ sym (emit-append (look ++ close ++ in-moves ++ call-moves) pops s)

-- ---- a refusal

refused : (L : Limits) (b list : List ℕ) {r : Refusal} {x : Result Listed Refusal} → x ≡ Err r → clauses_number L b list ≡ number_of r → record { answer = x; list = list } ≡ clauses_of L b list
unfolding clauses_of
refused L b list p e = (λ i. record { answer = p i; list = list }) ∙ refuses_by (λ r. record { answer = Err r; list = list }) _ e

-- ---- the parts of the file

module _ (L : Limits) (b : List ℕ) (readable : Readable L b) where
  listed_for :
      (whole : Bool)
      → list_by whole (slice (start b 1) (start b 2) b) (slice (start b 2) (start b 3) b) (slice (start b 3) (start b 4) b) (slice (start b 4) (trailer b) b) (top_words (table_of b)) ≡ list_for whole (table_of b)
  unfolding list_by clause_list short_list look_clauses transitivity return_clauses return_clauses_by live_returns table_of
  listed_for true = refl
  listed_for false = rw append-nil refl

  -- the answer
  pub listed : (list : List ℕ) → listed_by (clause_list (table_of b)) list ≡ clauses_of L b list
  unfolding listed_by clauses_of clauses_number clause_words
  listed list = go (leb (length (words_of (clause_list (table_of b)))) (length list)) refl
    where
      go : (t : Bool) → leb (length (words_of (clause_list (table_of b)))) (length list) ≡ t → listed_by (clause_list (table_of b)) list ≡ clauses_of L b list
      go true h = rw (h, listed_by) (not_refused (clauses_number L b list) _ _ (stage-passes _ _ readable ∙ passes 10 _ h ∙ no_test))
      go false h = rw (h, listed_by) (refused L b list {r = ListLength} refl (stage-passes _ _ readable ∙ fails 10 _ h))

-- the parts handed on
module _ {b : List ℕ} {s : Starts} {tops : List ℕ} (k : Known b s tops) {states internals calls returns : List ℕ}
    (e1 : states ≡ part_of b s States) (e2 : internals ≡ part_of b s Internals) (e3 : calls ≡ part_of b s Calls) (e4 : returns ≡ part_of b s Returns) where
  starts : s ≡ starts_of b
  starts = k.read.starts

  pub parts-listed : (whole : Bool) → list_by whole states internals calls returns tops ≡ list_for whole (table_of b)
  parts-listed whole =
      (λ i. list_by whole ((e1 ∙ states-at b starts) i) ((e2 ∙ internals-at b starts) i) ((e3 ∙ calls_at b starts) i) ((e4 ∙ returns-at b starts) i) (k.words i))
      ∙ listed_for k.limits b k.read.readable whole

-- ---- reading first

pub unread : (L : Limits) (b list : List ℕ) (r : Refusal) {x : Result Listed Refusal} → read_number L b ≡ number_of r → x ≡ Err r → record { answer = x; list = list } ≡ clauses_of L b list
unfolding clauses_number
unread L b list r e p = refused L b list p (stage_fails _ _ e (some_number r))
