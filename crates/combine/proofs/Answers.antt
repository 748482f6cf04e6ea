-- The answer by the tests in their order. Assumes nothing.
use mathlib.Core.Path.{◌≡◌, refl, sym, ap, ◌∙◌}
use mathlib.Core.Bool.{Bool, true, false}
use mathlib.Core.List.{List}
use Prim.Native.Nat.{ℕ, ◌<◌, ◌≤◌}
use native.Mathlib.Omega.{arith}
use lib.ListN.{length}
use lib.Dec.{leb}
use borrow.Author.Tests.{le-leb, lt-leb}
use Rattle.lists.proofs.Members.{not_so, same_true, same_of}
use Rattle.lists.proofs.Refusals.{passes, fails, no_test, stage-passes, stage_fails, not_refused}
use Rattle.limits.specs.declared.Limits.{Limits}
use Rattle.limits.specs.Limits.{state_most}
use Rattle.table_spec.specs.File.{table_of}
use Rattle.table_spec.specs.Reading.{read_number}
use Rattle.table_spec.specs.Language.{count}
use Rattle.table_spec.specs.declared.Starts.{Starts}
use Rattle.table_spec.proofs.Bytes.{read_well_formed}
use Rattle.table_spec.proofs.Facts.{most-states}
use Rattle.table_view.specs.Sections.{part_of}
use Rattle.table_view.specs.declared.Section.TheVariants.{Symbols, States}
use Rattle.table_view.proofs.Parts.{symbols-read, states-read}
use Rattle.std.specs.Prelude.{Result, Err}
use Rattle.refusals.specs.declared.Refusal.{Refusal}
use Rattle.refusals.specs.declared.Refusal.TheVariants.{OutputLength, Load, LoadRecords, Symbols as SymbolsDiffer}
use Rattle.refusals.specs.Refusals.{number_of}
use Rattle.refusals.proofs.Numbers.{some_number, refuses_by}
use Rattle.table_write.specs.Tables.{written_for}
use Rattle.fit_spec.specs.Fit.{same_symbols}
use Rattle.generate_spec.specs.Loads.{records_few}
use Rattle.combine_spec.specs.Combine.{combined_table, combined_bytes, states_few, combine_number, combine_of}
use Rattle.combine_spec.specs.declared.How.{How}
use Rattle.combine.specs.Parts.{state_count, BothRead, Combined, combined_for}
use Rattle.combine.proofs.Combining.{count_combined}

module _ (L : Limits) (how : How) (b c out : List ℕ) where
  refused_by_lem : {r : Refusal} → combine_number L how b c out ≡ number_of r → record { answer = Err r; out = out } ≡ combine_of L how b c out
  unfolding combine_of
  refused_by_lem e = refuses_by (λ r. record { answer = Err r; out = out }) _ e

  pub first_refused : {r : Refusal} {a : Result ℕ Refusal} → a ≡ Err r → read_number L b ≡ number_of r → record { answer = a; out = out } ≡ combine_of L how b c out
  unfolding combine_number
  first_refused {r} p e = (λ i. record { answer = p i; out = out }) ∙ refused_by_lem (stage_fails _ _ e (some_number r))

  pub second_refused : {r : Refusal} {a : Result ℕ Refusal} → a ≡ Err r → read_number L b ≡ 0 → read_number L c ≡ number_of r → record { answer = a; out = out } ≡ combine_of L how b c out
  unfolding combine_number
  second_refused {r} p z e = (λ i. record { answer = p i; out = out }) ∙ refused_by_lem (stage-passes _ _ z ∙ stage_fails _ _ e (some_number r))

  module _ {x y : Starts} (h : BothRead L b x c y) {f s : List ℕ} (e1 : f ≡ part_of b x Symbols) (e2 : s ≡ part_of c y Symbols) where
    pub symbols_differ : (f ≡ s → ⊥) → record { answer = Err SymbolsDiffer; out = out } ≡ combine_of L how b c out
    unfolding combine_number same_symbols
    symbols_differ n =
        let d = not_so _ (λ e. n (symbols-read h.first e1 ∙ same_true _ _ e ∙ sym (symbols-read h.second e2))) in
        refused_by_lem (stage-passes _ _ h.first.readable ∙ stage-passes _ _ h.second.readable ∙ fails 37 _ d)

    module _ (e : f ≡ s) {p q : List ℕ} (e3 : p ≡ part_of b x States) (e4 : q ≡ part_of c y States) where
      symbols_equal : (table_of b).symbols ≡ (table_of c).symbols
      symbols_equal = sym (symbols-read h.first e1) ∙ e ∙ symbols-read h.second e2

      symbols-same : same_symbols (table_of b) (table_of c) ≡ true
      unfolding same_symbols
      symbols-same = same_of symbols_equal

      counted : {k : ℕ} → k ≡ state_count how (length p) (length q) → k ≡ count (combined_table how (table_of b) (table_of c))
      counted k = k ∙ (λ i. state_count how (length (states-read h.first e3 i)) (length (states-read h.second e4 i))) ∙ sym (count_combined how (table_of b) (table_of c))

      pub too_many_states : {k : ℕ} → k ≡ state_count how (length p) (length q) → L.states < k → record { answer = Err Load; out = out } ≡ combine_of L how b c out
      unfolding combine_number states_few
      too_many_states {k} d l =
          refused_by_lem (stage-passes _ _ h.first.readable ∙ stage-passes _ _ h.second.readable ∙ passes 37 _ symbols-same ∙ fails 35 _ (lt-leb (count (combined_table how (table_of b) (table_of c))) L.states (omega (arith, counted d))))

      few-states : {k : ℕ} → k ≡ state_count how (length p) (length q) → k ≤ L.states → states_few L (combined_table how (table_of b) (table_of c)) ≡ true
      unfolding states_few
      few-states {k} d l = le-leb (count (combined_table how (table_of b) (table_of c))) L.states (omega (arith, counted d))

      pub combines : {k : ℕ} → k ≡ state_count how (length p) (length q) → k ≤ L.states → Combined how b x c y
      combines d l = record { limits = L; both = h; symbols = symbols_equal; states = few-states d l }

      last :
          (z : states_few L (combined_table how (table_of b) (table_of c)) ≡ true) (t v : Bool) → records_few (combined_table how (table_of b) (table_of c)) ≡ t
          → leb (length (combined_bytes how b c)) (length out) ≡ v → combined_for how b c out ≡ combine_of L how b c out
      unfolding combined_for written_for combine_number combine_of
      last z true true g k =
          rw (g, k, combined_for, written_for) (not_refused (combine_number L how b c out) _ _ (stage-passes _ _ h.first.readable ∙ stage-passes _ _ h.second.readable ∙ passes 37 _ symbols-same ∙ passes 35 _ z ∙ passes 36 _ g ∙ passes 21 _ k ∙ no_test))
      last z true false g k =
          rw (g, k, combined_for, written_for) (refused_by_lem {r = OutputLength} (stage-passes _ _ h.first.readable ∙ stage-passes _ _ h.second.readable ∙ passes 37 _ symbols-same ∙ passes 35 _ z ∙ passes 36 _ g ∙ fails 21 _ k))
      last z false v g k =
          rw (g, combined_for) (refused_by_lem {r = LoadRecords} (stage-passes _ _ h.first.readable ∙ stage-passes _ _ h.second.readable ∙ passes 37 _ symbols-same ∙ passes 35 _ z ∙ fails 36 _ g))

      pub combined_all : {k : ℕ} → k ≡ state_count how (length p) (length q) → k ≤ L.states → combined_for how b c out ≡ combine_of L how b c out
      combined_all d l = last (few-states d l) (records_few (combined_table how (table_of b) (table_of c))) (leb (length (combined_bytes how b c)) (length out)) refl refl

    pub states-most : {p q : List ℕ} → p ≡ part_of b x States → q ≡ part_of c y States → (length p ≤ state_most) × (length q ≤ state_most)
    states-most e f = (
      omega (arith, ap length (states-read h.first e), most-states (read_well_formed L b h.first.readable)),
      omega (arith, ap length (states-read h.second f), most-states (read_well_formed L c h.second.readable)),
    )
