-- From the tests and the tables' turns to the answer of a season. Assumes nothing.
use mathlib.Core.Path.{◌≡◌, ◌∙◌}
use mathlib.Core.Bool.{true, false}
use mathlib.Core.List.{List}
use Prim.Native.Nat.{ℕ, ◌*◌, ◌/◌, ◌≤◌}
use native.Mathlib.Nat.{mul_comm, div-add-mod'}
use native.Mathlib.Omega.{arith}
use lib.ListN.{length}
use Rattle.lists.proofs.Refusals.{passes, fails, no_test, not_refused}
use Rattle.limits.specs.declared.Limits.{Limits}
use Rattle.limits.specs.Limits.{limits_fit}
use Rattle.std.specs.Prelude.{Ok, Err}
use Rattle.refusals.specs.declared.Refusal.{Refusal}
use Rattle.refusals.specs.declared.Refusal.TheVariants.{Lengths, LimitsRange}
use Rattle.refusals.specs.Refusals.{number_of}
use Rattle.refusals.proofs.Numbers.{refuses_by}
use Rattle.season_spec.specs.Seasons.{share_of, lengths_fit, season_number, SeasonDone, season_of}
use Rattle.season.specs.Turns.{Ran}

-- the shares of all tables are within the guesses
pub shares_within : (guesses k : ℕ) → k * (guesses / k) ≤ guesses
shares_within guesses k = omega (arith, div-add-mod' guesses k, mul_comm k (guesses / k))

module _ (L : Limits) (tables lengths : List ℕ) (guesses : ℕ) (list maps out : List ℕ) where
  refused : {r : Refusal} → season_number L tables lengths ≡ number_of r → ◌≡◌ {A = SeasonDone} (record { answer = Err r; list = list; maps = maps; out = out }) (season_of L tables lengths guesses list maps out)
  unfolding season_of
  refused e = refuses_by (λ r. record { answer = Err r; list = list; maps = maps; out = out }) _ e

  -- "39 .. before anything else"
  pub refused_limits : limits_fit L ≡ false → ◌≡◌ {A = SeasonDone} (record { answer = Err LimitsRange; list = list; maps = maps; out = out }) (season_of L tables lengths guesses list maps out)
  unfolding season_number
  refused_limits p = refused (fails 39 _ p)

  -- "then 34"
  pub refused_lengths :
      limits_fit L ≡ true → lengths_fit (length tables) lengths ≡ false → ◌≡◌ {A = SeasonDone} (record { answer = Err Lengths; list = list; maps = maps; out = out }) (season_of L tables lengths guesses list maps out)
  unfolding season_number
  refused_lengths p q = refused (passes 39 _ p ∙ fails 34 _ q)

  pub reduced :
      limits_fit L ≡ true → lengths_fit (length tables) lengths ≡ true → {values list' maps' out' : List ℕ}
      → Ran L (guesses / length lengths) lengths tables list maps out values list' maps' out'
      → ◌≡◌ {A = SeasonDone} (record { answer = Ok values; list = list'; maps = maps'; out = out' }) (season_of L tables lengths guesses list maps out)
  unfolding season_number season_of share_of
  reduced p q {values} {list'} {maps'} {out'} w =
      (λ j. record { answer = Ok (w.rows j); list = w.kept-list j; maps = w.new-maps j; out = w.new-out j })
      ∙ not_refused (season_number L tables lengths) _ _ (passes 39 _ p ∙ passes 34 _ q ∙ no_test)
