-- What is said of bytes that are written wherever a number is 0, and of the answer that is their length. Assumes nothing.
use mathlib.Core.Path.{◌≡◌, refl, sym, subst}
use mathlib.Core.Bool.{true, false}
use mathlib.Core.List.{List, [], ◌∷◌}
use Prim.Native.Nat.{ℕ}
use lib.ListN.{length, take, drop}
use lib.Seq.{take-append_seam}
use lib.Dec.{eqb}
use Rattle.std.specs.Prelude.{Ok, Err}
use Rattle.lists.specs.Lists.{over, Says}
use Rattle.lists.proofs.Refusals.{says, on_values}
use Rattle.quotient_spec.specs.Quotient.{QuotientDone}
use Rattle.quotient_spec.specs.Demands.{OnWriting}
use Rattle.refusals.specs.Refusals.{refusal, Known, number_in, one_value, values_in}
use Rattle.refusals.proofs.Numbers.{some_number}

-- the bytes c, or the refusal k
module _ (k : ℕ) (c out : List ℕ) where
  abbrev written : QuotientDone
  written = record { answer = Ok (length c); out = over c out }

  abbrev refused : QuotientDone
  refused = record { answer = Err (refusal k); out = out }

  abbrev done : QuotientDone
  done = elim (eqb k 0) as (λ _. QuotientDone) [ true ↦ written | false ↦ refused ]

  -- what holds of the bytes holds of what is written
  pub on_writing : (P : List ℕ → Type 0) → (k ≡ 0 → P c) → OnWriting done.answer (λ n. P (take n done.out))
  unfolding over
  on_writing P h =
      on_values k written refused (λ (d : QuotientDone). number_in d.answer) (λ (d : QuotientDone). values_in one_value d.answer) (λ d v. P (take (v 0) d.out))
      (λ z. subst P (sym (take-append_seam c (drop (length c) out))) (h z)) (λ _. some_number (refusal k))

  pub says_length : Known k → Says (number_in done.answer) (values_in one_value done.answer) k (length c ∷ [])
  says_length h = says k written refused (λ (d : QuotientDone). number_in d.answer) (λ (d : QuotientDone). values_in one_value d.answer) refl refl h refl
