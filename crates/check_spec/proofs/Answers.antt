-- The check's number and its answer, by cases, and what the answer promises (demand 2). Assumes nothing.
use mathlib.Core.Path.{◌≡◌, sym, ap, ◌∙◌, subst}
use mathlib.Core.List.{List, [], ◌∷◌}
use Prim.Native.Nat.{ℕ}
use Rattle.std.specs.Prelude.{Result, Ok, Err}
use Rattle.lists.specs.Lists.{first_failed, Says}
use Rattle.lists.proofs.Refusals.{stage-passes}
use Rattle.limits.specs.declared.Limits.{Limits}
use Rattle.refusals.specs.declared.Refusal.{Refusal}
use Rattle.refusals.specs.declared.Refusal.TheVariants.{MapLength, Numbering, Disagreement, InternalUnmatched, CallUnmatched, ReturnUnmatched}
use Rattle.refusals.specs.Refusals.{number_of, Known, tested, number_in, one_value, values_in}
use Rattle.refusals.proofs.Numbers.{known_of, failed_known, none_known, refused_by, ok_by, was_ok, was_refused, answered_says}
use Rattle.table_spec.specs.File.{table_of}
use Rattle.table_spec.specs.Reading.{Readable}
use Rattle.table_spec.proofs.Passed.{read-known}
use Rattle.table_spec.specs.Maps.{classes}
use Rattle.check_spec.specs.Check.{map_tests, check_number, check_of, CheckSays}
use Rattle.check_spec.specs.Demands.{IsAccepted, AcceptedWith, AcceptsExactly}
use Rattle.check_spec.proofs.Accepted.{accepted, accepts}

module _ (L : Limits) (b m : List ℕ) where
  pub check_refused : {r : Refusal} → check_number L b m ≡ number_of r → Err r ≡ check_of L b m
  unfolding check_of
  check_refused e = refused_by (classes m) e

  pub check_accepted : {n : ℕ} → check_number L b m ≡ 0 → n ≡ classes m → Ok n ≡ check_of L b m
  unfolding check_of
  check_accepted e l = ap {B = Result ℕ Refusal} (λ n. Ok n) l ∙ ok_by (classes m) e

  -- the check refuses by numbers that are known
  pub check-known : Known (check_number L b m)
  unfolding check_number map_tests
  check-known =
      failed_known _ _ (read-known L b) (failed_known _ _ (known_of MapLength) (failed_known _ _ (known_of Numbering) (failed_known _ _ (known_of Disagreement)
      (failed_known _ _ (known_of InternalUnmatched) (failed_known _ _ (known_of CallUnmatched) (failed_known _ _ (known_of ReturnUnmatched) none_known))))))

  -- of a readable table, by what its map's tests give
  pub by_tests : Readable L b → check_number L b m ≡ first_failed (map_tests (table_of b) m)
  unfolding check_number
  by_tests r = stage-passes _ _ r

  pub tests_refused : {r : Refusal} → Readable L b → Err r ≡ tested (first_failed (map_tests (table_of b) m)) → check_number L b m ≡ number_of r
  tests_refused p e = by_tests p ∙ was_refused tt (subst Known (by_tests p) check-known) (sym e)

  pub tests_passed : {u : Unit {0}} → Readable L b → Ok u ≡ tested (first_failed (map_tests (table_of b) m)) → check_number L b m ≡ 0
  tests_passed p e = by_tests p ∙ (was_ok tt (sym e)).0

  numbered : CheckSays L b m (check_of L b m)
  unfolding check_of
  numbered = answered_says (classes m) one_value check-known

  -- accepted, by the answer's number and by the definition's
  pub passes-number : IsAccepted (check_of L b m) → check_number L b m ≡ 0
  passes-number e = sym numbered.numbered ∙ e

  pub number-passes : check_number L b m ≡ 0 → IsAccepted (check_of L b m)
  number-passes e = numbered.numbered ∙ e

  pub accepted_with : check_number L b m ≡ 0 → AcceptedWith (check_of L b m) (classes m)
  accepted_with e = subst (λ k. Says (number_in (check_of L b m)) (values_in one_value (check_of L b m)) k (classes m ∷ [])) e numbered

  -- demand 2
  exactly : AcceptsExactly L b m (check_of L b m)
  exactly readable = (
    λ e. let a = accepted L b m (passes-number e) in (a.proper, a.raq),
    λ z. number-passes (accepts L b m (record { readable = readable; proper = z.0; raq = z.1 })),
  )

  pub checked : {r : Result ℕ Refusal} → r ≡ check_of L b m → (r ≡ check_of L b m) × (CheckSays L b m r × AcceptsExactly L b m r)
  checked {r} e = (e, subst (λ (y : Result ℕ Refusal). CheckSays L b m y × AcceptsExactly L b m y) (sym e) (numbered, exactly))

  pub accepted-number : {n : ℕ} → check_of L b m ≡ Ok n → check_number L b m ≡ 0
  unfolding check_of
  accepted-number f = (was_ok (classes m) f).0

  pub refused_number : {r : Refusal} → check_of L b m ≡ Err r → check_number L b m ≡ number_of r
  unfolding check_of
  refused_number f = was_refused (classes m) check-known f
