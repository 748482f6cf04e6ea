-- `script::read_known` meets its contract. Assumes nothing.
use Rattle.refusals.proofs.Numbers.{passed_up}
use Rattle.script.proofs.Handed.{parts-symbols, parts-read, test_refused, test_passed, tests_fit}
use Rattle.table_index.proofs.Parts.{parts-lent}
use Rattle.script_spec.proofs.Answers.{told, refused}
use Rattle.script_spec.specs.Script.{script_tests}
use Rattle.table_view.proofs.Parts.{symbols-read}
use Rattle.lists.specs.Lists.{first_failed}
use mathlib.Core.Path.{sym, ap, ◌∙◌}
use Rattle.script.proofs.read_known.Goals as goal

pub returns-in_err-test_script : goal.returns-in_err-test_script
returns-in_err-test_script c =
    let e = sym (ap (λ x. first_failed (script_tests x c.args.script.now)) (symbols-read c.requires.known c.part-symbols.ensures)) ∙ test_refused _ _ c.in_err-test_script.ensures in
    passed_up c.from_residual.ensures ∙ refused _ _ _ e

pub reads-requires : goal.reads-requires
reads-requires c =
    let symbols = c.part-symbols.ensures in
    let states = c.part.ensures in
    let internals = c.part-2.ensures in
    let calls = c.part-3.ensures in (
      parts-lent _ c.requires.known states internals calls c.part-4.ensures,
      parts-symbols _ c.requires symbols states internals calls c.part-4.ensures,
      tests_fit _ _ (test_passed _ _ c.in_ok-test_script.ensures),
    )

pub returns : goal.returns
returns c =
    let e = sym (ap (λ x. first_failed (script_tests x c.args.script.now)) (symbols-read c.requires.known c.part-symbols.ensures)) ∙ test_passed _ _ c.in_ok-test_script.ensures in
    told _ _ _ e (c.reads.ensures ∙ parts-read _ (c.requires) c.part-symbols.ensures c.part.ensures c.part-2.ensures c.part-3.ensures c.part-4.ensures _)
