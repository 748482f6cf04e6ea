-- Fitting is reflexive and transitive, and a table fits its own quotient (request (xi)). Assumes nothing.
use mathlib.Core.Path.{◌≡◌, sym, ◌∙◌, subst}
use mathlib.Core.Bool.{true}
use mathlib.Core.List.{List}
use Prim.Native.Nat.{ℕ}
use Rattle.limits.specs.declared.Limits.{Limits}
use Rattle.limits.specs.Limits.{standard}
use Rattle.table_spec.specs.File.{table_of}
use Rattle.check_spec.specs.Check.{check_number}
use Rattle.check_spec.proofs.Accepted.{accepted}
use Rattle.quotient_spec.specs.Quotient.{quotient_bytes}
use Rattle.quotient_spec.proofs.Theorems.{keeps-words, is_quotient}
use Rattle.refusals.specs.declared.Refusal.{Refusal}
use Rattle.refusals.specs.Refusals.{number_in}
use Rattle.std.specs.Prelude.{Bool, Result}
use Rattle.fit_spec.specs.Fit.{no_choice, fit_number, fit_of, FitSays}
use Rattle.fit_spec.specs.Demands.{OnFitting, IsYes, YesExactly, NoApart, FitsQuotient, FitsOn}
use Rattle.fit_spec.proofs.Exact.{permits, fit_worth, fit_says, number_of, fit-one, fit_yes, yes_permitted, yes_every}

pub fits-itself : (b : List ℕ) → number_in (fit_of b b) ≡ 0 → IsYes (fit_of b b)
fits-itself b z = fit_yes b b z (λ w h. h)

-- "Fitting is transitive where all the comparisons are permitted."
pub transitive : (b c d : List ℕ) → IsYes (fit_of b c) → IsYes (fit_of c d) → IsYes (fit_of b d)
transitive b c d e f =
    let p = yes_permitted b c e in
    let q = yes_permitted c d f in
    fit_yes b d (number_of b d ∙ permits b d record { first = p.first; second = q.second; symbols = p.symbols ∙ q.symbols; single = q.single })
    (λ w h. yes_every c d f w (yes_every b c e w h))

module _ (L : Limits) (b m : List ℕ) (e : check_number L b m ≡ 0) where
  -- "A table fits its own quotient, where the operation takes both"
  pub fits-quotient : OnFitting (fit_of b (quotient_bytes b m)) (λ y. y ≡ 1)
  fits-quotient = fit-one b (quotient_bytes b m) (λ w. ((keeps-words L b m e).each w).0)

  -- and the quotient fits its table
  pub quotient_fits : OnFitting (fit_of (quotient_bytes b m) b) (λ y. y ≡ 1)
  quotient_fits = fit-one (quotient_bytes b m) b (λ w. ((keeps-words L b m e).each w).1)

-- it takes both wherever the check accepts the map at 24 and 32 and the quotient has no choice
pub quotient-taken : (b m : List ℕ) → check_number standard b m ≡ 0 → no_choice (table_of (quotient_bytes b m)) ≡ true → fit_number b (quotient_bytes b m) ≡ 0
quotient-taken b m e s =
    let q = is_quotient standard b m e in
    permits b (quotient_bytes b m) record { first = (accepted standard b m e).readable; second = q.readable; symbols = sym q.symbols; single = s }

-- ---- what an answer of the operation promises

pub promised : (b c : List ℕ) {r : Result Bool Refusal} → r ≡ fit_of b c → (r ≡ fit_of b c) × (FitSays b c r × (YesExactly b c r × (NoApart b c r × (FitsQuotient b c r × FitsOn b c r))))
promised b c {r} e = (e, rw e (fit_says b c, (kept.0, (kept.1.0, (kept.1.1.0, kept.1.1.1)))))
  where
    kept : YesExactly b c (fit_of b c) × (NoApart b c (fit_of b c) × (FitsQuotient b c (fit_of b c) × FitsOn b c (fit_of b c)))
    kept = (
      (fit_worth b c).0,
      (
        (fit_worth b c).1,
        (
          record {
            quotient = λ L m h k. subst (λ (d : List ℕ). OnFitting (fit_of b d) (λ y. y ≡ 1)) (sym k) (fits-quotient L b m h);
            back = λ L m h k. subst (λ (d : List ℕ). OnFitting (fit_of d c) (λ y. y ≡ 1)) (sym k) (quotient_fits L c m h);
          },
          transitive b c,
        ),
      ),
    )
