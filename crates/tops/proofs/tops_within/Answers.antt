-- `tops::tops_within` meets its contract: the tops of a table that was read, which are exact, or its refusal. Assumes nothing.
use mathlib.Core.Path.{◌∙◌, ap}
use mathlib.Core.List.{List}
use Prim.Native.Nat.{ℕ}
use Rattle.std.specs.Borrow.{Bor}
use Rattle.refusals.proofs.Numbers.{passed_up}
use Rattle.table_spec.specs.File.{table_of}
use Rattle.tops_spec.specs.Tops.{top_words, top_count}
use Rattle.tops.proofs.Read.{tops-promised, tops_told, tops-answer, tops_refused}
use Rattle.tops.proofs.tops_within.Goals as goal

pub returns-in_err-examined : goal.returns-in_err-examined
returns-in_err-examined c =
    let e = passed_up c.from_residual.ensures in
    let err = c.in_err-examined.ensures.err in
    let the_facts = tops-promised _ _ (e ∙ tops_refused _ _ err) in
    record { answers = the_facts.0; exact = the_facts.1; number = tops_told _ _ the_facts.0 }

pub returns : goal.returns
returns c =
    let e = c.in_ok-examined.examined in
    let ok = c.in_ok-examined.ensures.ok in
    let words = e.words_known ∙ ap (λ (t : Bor (List ℕ)). top_words (table_of t.now)) ok.0 in
    let found = e.found_known ∙ ap (λ (t : Bor (List ℕ)). top_count (table_of t.now)) ok.0 in
    let the_facts = tops-promised _ _ (tops-answer _ _ ok.1 words found) in
    record { answers = the_facts.0; exact = the_facts.1; number = tops_told _ _ the_facts.0 }
