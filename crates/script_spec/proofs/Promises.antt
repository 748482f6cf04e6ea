-- What the answer to a script is worth, and that two tables with the same symbols and words give one answer to every script. Assumes nothing.
use mathlib.Core.Path.{◌≡◌, refl, sym, ap, ◌∙◌, subst}
use mathlib.Core.Bool.{Bool, true, false}
use mathlib.Core.List.{List}
use Prim.Native.Nat.{ℕ}
use native.Mathlib.Omega.{arith}
use native.Mathlib.Decide.{ℕ_discrete}
use lib.ListN.{get_or}
use Rattle.std.specs.Prelude.{Result, Err}
use Rattle.lists.specs.Lists.{first_failed}
use Rattle.lists.proofs.Refusals.{said}
use Rattle.limits.specs.declared.Limits.{Limits}
use Rattle.refusals.specs.declared.Refusal.{Refusal}
use Rattle.refusals.specs.declared.Refusal.TheVariants.{ScriptSymbol, OpenCalls}
use Rattle.refusals.specs.Refusals.{refusal, Known, values_in}
use Rattle.refusals.proofs.Numbers.{known_of, failed_known, none_known, answered_says}
use Rattle.table_spec.specs.File.{table_of}
use Rattle.table_spec.specs.Reading.{Readable}
use Rattle.table_spec.specs.Language.{SameWords}
use Rattle.table_spec.proofs.Passed.{read-known}
use Rattle.table_spec.proofs.Bytes.{read_well_formed}
use Rattle.script_spec.specs.Script.{reads, started, script_tests, script_number, answer_by, script_of, yes_value, yes_values, ScriptSays}
use Rattle.script_spec.specs.Demands.{ScriptExact, SameScripts}
use Rattle.script_spec.proofs.Answers.{told, refused-any, number-readable, script_read}
use Rattle.script_spec.proofs.Meaning.{reads-exact}

-- yes and no by their values
pub said_yes : (x : Bool) → yes_value x ≡ 1 → x ≡ true
said_yes true e = refl
said_yes false e = absurd (omega arith)

pub said_no : (x : Bool) → yes_value x ≡ 0 → x ≡ false
said_no true e = absurd (omega arith)
said_no false e = refl

module _ (L : Limits) (b w : List ℕ) where
  script-known : Known (script_number L b w)
  unfolding script_number script_tests
  script-known = failed_known _ _ (read-known L b) (failed_known _ _ (known_of ScriptSymbol) (failed_known _ _ (known_of OpenCalls) none_known))

  numbered : ScriptSays L b w (script_of L b w)
  unfolding script_of answer_by
  numbered = answered_says (reads (table_of b) (started (table_of b)) w) yes_values script-known

  script_exact : ScriptExact b w (script_of L b w)
  script_exact e =
      let s = said numbered e in
      let h = reads-exact (read_well_formed L b (number-readable L b w s.0)) w in
      let v : get_or (values_in yes_values (script_of L b w)) 0 0 ≡ yes_value (reads (table_of b) (started (table_of b)) w) = ap (λ vs. get_or vs 0 0) s.1 in
      (λ y. h.0 (said_yes _ (sym v ∙ y)), λ k. v ∙ ap yes_value (h.1 k))

  pub promised : {r : Result Bool Refusal} → r ≡ script_of L b w → (r ≡ script_of L b w) × (ScriptSays L b w r × ScriptExact b w r)
  promised e = (e, subst (λ r. ScriptSays L b w r × ScriptExact b w r) (sym e) (numbered, script_exact))

-- two tests that hold together are one
one_truth : (x y : Bool) → (x ≡ true → y ≡ true) → (y ≡ true → x ≡ true) → x ≡ y
one_truth true y f g = sym (f refl)
one_truth false true f g = g refl
one_truth false false f g = refl

-- "Tables and reduced tables must give one answer to every script read", number included
pub scripts-same : (L : Limits) (b c : List ℕ) → Readable L b → Readable L c → (table_of b).symbols ≡ (table_of c).symbols → SameWords b c → SameScripts L b c
scripts-same L b c rb rc e s = record { each = one }
  where
    one : (w : List ℕ) → script_of L b w ≡ script_of L c w
    one w = go (ℕ_discrete (first_failed (script_tests (table_of b).symbols w)) 0)
      where
        tests : first_failed (script_tests (table_of b).symbols w) ≡ first_failed (script_tests (table_of c).symbols w)
        tests = ap (λ x. first_failed (script_tests x w)) e

        answers : reads (table_of b) (started (table_of b)) w ≡ reads (table_of c) (started (table_of c)) w
        answers =
            let h = reads-exact (read_well_formed L b rb) w in
            let k = reads-exact (read_well_formed L c rc) w in
            one_truth _ _ (λ y. k.1 ((s.each w).0 (h.0 y))) (λ y. h.1 ((s.each w).1 (k.0 y)))

        go : Dec (first_failed (script_tests (table_of b).symbols w) ≡ 0) → script_of L b w ≡ script_of L c w
        go (yes z) = sym (script_read L b w rb (told _ (table_of b) w z refl)) ∙ script_read L c w rc (told _ (table_of c) w (sym tests ∙ z) answers)
        go (no n) =
            sym (script_read L b w rb (refused-any _ (table_of b) w n))
            ∙ script_read L c w rc (subst (λ k. Err (refusal k) ≡ answer_by (first_failed (script_tests (table_of c).symbols w)) (table_of c) w) (sym tests) (refused-any _ (table_of c) w (λ z. n (tests ∙ z))))
