-- What a load promises holds of the operation's answer. Assumes nothing.
use mathlib.Core.Path.{◌≡◌, sym, subst}
use mathlib.Core.Bool.{true}
use mathlib.Core.List.{List}
use Prim.Native.Nat.{ℕ, ◌+◌}
use native.Mathlib.Omega.{arith}
use lib.ListN.{take}
use Rattle.lists.proofs.Refusals.{passed}
use Rattle.limits.specs.declared.Limits.{Limits}
use Rattle.limits.specs.Limits.{limits_fit}
use Rattle.table_spec.specs.File.{table_of}
use Rattle.table_spec.specs.Reading.{Readable}
use Rattle.quotient_spec.specs.Quotient.{QuotientDone}
use Rattle.quotient_spec.specs.Demands.{OnWriting}
use Rattle.refusals.specs.declared.Refusal.{Refusal}
use Rattle.refusals.specs.declared.Refusal.TheVariants.{LimitsRange, Load as Load_refused, LoadRecords, OutputLength}
use Rattle.refusals.specs.Refusals.{Known}
use Rattle.refusals.proofs.Numbers.{known_of, failed_known, none_known}
use Rattle.std.specs.Prelude.{Result}
use Rattle.quotient_spec.proofs.Writing.{on_writing, says_length}
use Rattle.generate_spec.specs.Loads.{Load, described, described_bytes, sizes_fit, records_few, generate_number, generate_of, GenerateSays}
use Rattle.generate_spec.specs.Demands.{Promises}
use Rattle.generate_spec.proofs.Described.{described-read, described_table}

module _ (L : Limits) (g : Load) (out : List ℕ) where
  writes :
      (P : List ℕ → Type 0)
      → (limits_fit L ≡ true → sizes_fit L g.states (g.internals + (g.calls + g.returns)) g.density ≡ true → records_few (described g) ≡ true → P (described_bytes g))
      → OnWriting (generate_of L g out).answer (λ n. P (take n (generate_of L g out).out))
  unfolding generate_of generate_number
  writes P h = on_writing (generate_number L g out) (described_bytes g) out P given
    where
      given : generate_number L g out ≡ 0 → P (described_bytes g)
      given e =
          let a = passed 39 _ _ (λ z. omega (arith, z)) e in
          let b = passed 35 _ _ (λ z. omega (arith, z)) a.1 in
          let c = passed 36 _ _ (λ z. omega (arith, z)) b.1 in
          h a.0 b.0 c.0

  promises : Promises L g (generate_of L g out).answer (generate_of L g out).out
  promises = record {
    readable = writes (Readable L) (λ l z f. described-read g L l z f);
    described = writes (λ b. table_of b ≡ described g) (λ l z f. described_table g L l z f);
  }

  generate-known : Known (generate_number L g out)
  unfolding generate_number
  generate-known = failed_known _ _ (known_of LimitsRange) (failed_known _ _ (known_of Load_refused) (failed_known _ _ (known_of LoadRecords) (failed_known _ _ (known_of OutputLength) none_known)))

  numbered : GenerateSays L g out (generate_of L g out).answer
  unfolding generate_of
  numbered = says_length (generate_number L g out) (described_bytes g) out generate-known

  -- the contract, from its equation
  pub generated : {r : Result ℕ Refusal} {now : List ℕ} → record { answer = r; out = now } ≡ generate_of L g out
      → (record { answer = r; out = now } ≡ generate_of L g out) × (GenerateSays L g out r × Promises L g r now)
  generated e = (e, subst (λ (d : QuotientDone). GenerateSays L g out d.answer × Promises L g d.answer d.out) (sym e) (numbered, promises))
