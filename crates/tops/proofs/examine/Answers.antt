-- `tops::examine` meets its contract: the starts and the tops of a table that was read, or its refusal. Assumes nothing.
use mathlib.Core.Path.{◌∙◌, sym, ap}
use mathlib.Core.List.{List}
use Prim.Native.Nat.{ℕ}
use Rattle.std.specs.Borrow.{Bor}
use Rattle.std.specs.Prelude.{Result, Ok}
use Rattle.refusals.specs.declared.Refusal.{Refusal}
use Rattle.refusals.proofs.Numbers.{passed_up}
use Rattle.table_spec.specs.File.{table_of}
use Rattle.table_spec.specs.Reading.{starts_of}
use Rattle.table_spec.specs.declared.Starts.{Starts}
use Rattle.table_view.proofs.Handed.{read_as}
use Rattle.tops_spec.specs.Tops.{top_words, top_count}
use Rattle.tops.specs.Steps.{tops_found}
use Rattle.tops.proofs.Read.{read-handed, examined, examined_err, examined_refused}
use Rattle.tops.proofs.examine.Goals as goal

pub examine_read-requires : goal.examine_read-requires
examine_read-requires c = read-handed _ _ c.in_ok-starts.ensures.answers

pub returns-in_err-starts-clause-answers : goal.returns-in_err-starts-clause-answers
returns-in_err-starts-clause-answers c = rw (passed_up c.from_residual.ensures) (examined_err _ _ (examined_refused _ _ c.in_err-starts.ensures.answers))

pub returns-clause-answers : goal.returns-clause-answers
unfolding tops_found
returns-clause-answers c =
    let x = c.examine_read.result in
    let e = c.in_ok-starts.ensures.answers in
    let starts = x.starts_known ∙ ap (λ (t : Bor (List ℕ)). starts_of t.now) c.examine_read.ensures ∙ sym (read_as _ _ _ (sym e)).starts in
    let words = x.words_known ∙ ap (λ (t : Bor (List ℕ)). top_words (table_of t.now)) c.examine_read.ensures in
    let found = x.found_known ∙ ap (λ (t : Bor (List ℕ)). top_count (table_of t.now)) c.examine_read.ensures in
    examined _ _ (ap {B = Result Starts Refusal} (λ s. Ok s) starts ∙ e) (λ i. record { words = words i; found = found i })
