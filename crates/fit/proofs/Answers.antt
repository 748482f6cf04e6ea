-- The answer by the tests in their order. Assumes nothing.
use mathlib.Core.Path.{◌≡◌, sym, ap, ◌∙◌}
use mathlib.Core.Bool.{Bool, true, false}
use mathlib.Core.List.{List}
use Prim.Native.Nat.{ℕ}
use Rattle.lists.proofs.Members.{not_so, same_true, same_of}
use Rattle.lists.proofs.Refusals.{passes, fails, no_test, stage-passes, stage_fails}
use Rattle.limits.specs.Limits.{standard}
use Rattle.std.specs.Prelude.{Result, Ok, Err}
use Rattle.refusals.specs.declared.Refusal.{Refusal}
use Rattle.refusals.specs.declared.Refusal.TheVariants.{Symbols as SymbolsDiffer, Choices}
use Rattle.refusals.specs.Refusals.{number_of}
use Rattle.refusals.proofs.Numbers.{some_number, refused_by, ok_by}
use Rattle.table_spec.specs.File.{table_of}
use Rattle.table_spec.specs.Reading.{read_number}
use Rattle.table_spec.specs.declared.Starts.{Starts}
use Rattle.table_view.specs.Sections.{part_of}
use Rattle.table_view.specs.declared.Section.TheVariants.{Symbols}
use Rattle.table_view.proofs.Parts.{symbols-read}
use Rattle.fit_spec.specs.Fit.{fits, no_choice, same_symbols, fit_number, fit_of}
use Rattle.fit_compare.specs.Compared.{BothRead}

module _ (b c : List ℕ) where
  refused_by_lem : {r : Refusal} → fit_number b c ≡ number_of r → Err r ≡ fit_of b c
  unfolding fit_of
  refused_by_lem e = refused_by _ e

  told : {x : Bool} → fit_number b c ≡ 0 → x ≡ fits (table_of b) (table_of c) → Ok x ≡ fit_of b c
  unfolding fit_of
  told z e = ap {B = Result Bool Refusal} (λ x. Ok x) e ∙ ok_by _ z

  pub first_refused : {r : Refusal} → read_number standard b ≡ number_of r → Err r ≡ fit_of b c
  unfolding fit_number
  first_refused {r} e = refused_by_lem (stage_fails _ _ e (some_number r))

  module _ (first : read_number standard b ≡ 0) where
    pub second_refused : {r : Refusal} → read_number standard c ≡ number_of r → Err r ≡ fit_of b c
    unfolding fit_number
    second_refused {r} e = refused_by_lem (stage-passes _ _ first ∙ stage_fails _ _ e (some_number r))

-- two tables that were read, by their symbols' parts
module _ {b c : List ℕ} {x y : Starts} (h : BothRead b x c y) {first second : List ℕ} (e1 : first ≡ part_of b x Symbols) (e2 : second ≡ part_of c y Symbols) where
  symbols-same : first ≡ second → same_symbols (table_of b) (table_of c) ≡ true
  unfolding same_symbols
  symbols-same e = same_of (sym (symbols-read h.first e1) ∙ e ∙ symbols-read h.second e2)

  pub symbols_differ : (first ≡ second → ⊥) → Err SymbolsDiffer ≡ fit_of b c
  unfolding fit_number same_symbols
  symbols_differ n =
      let d = not_so _ (λ e. n (symbols-read h.first e1 ∙ same_true _ _ e ∙ sym (symbols-read h.second e2))) in
      refused_by_lem b c (stage-passes _ _ h.first.readable ∙ stage-passes _ _ h.second.readable ∙ fails 37 _ d)

  module _ (e : first ≡ second) where
    pub has_choice : no_choice (table_of c) ≡ false → Err Choices ≡ fit_of b c
    unfolding fit_number
    has_choice d = refused_by_lem b c (stage-passes _ _ h.first.readable ∙ stage-passes _ _ h.second.readable ∙ passes 37 _ (symbols-same e) ∙ fails 38 _ d)

    module _ (s : no_choice (table_of c) ≡ true) where
      permitted : fit_number b c ≡ 0
      unfolding fit_number
      permitted = stage-passes _ _ h.first.readable ∙ stage-passes _ _ h.second.readable ∙ passes 37 _ (symbols-same e) ∙ passes 38 _ s ∙ no_test

      pub says : {x : Bool} → x ≡ fits (table_of b) (table_of c) → Ok x ≡ fit_of b c
      says f = told b c permitted f
