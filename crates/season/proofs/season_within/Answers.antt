-- `season::season_within` meets its contract: 39, 34, or every table in turn; and what is promised of it. Assumes nothing.
use mathlib.Core.Path.{◌≡◌, sym, ◌∙◌}
use mathlib.Core.Bool.{true}
use native.Mathlib.Omega.{arith}
use lib.ListN.{length}
use Rattle.season_spec.specs.Seasons.{lengths_fit}
use Rattle.season_spec.proofs.Theorems.{promised, says_run}
use Rattle.season.proofs.Sums.{fitting}
use Rattle.season.proofs.Seasons.{shares_within, refused_limits, refused_lengths, reduced}
use Rattle.season.proofs.season_within.Goals as goal

pub returns-then-not-limits_fit : goal.returns-then-not-limits_fit
returns-then-not-limits_fit c =
    let the_facts = promised c.args.limits c.args.tables.now c.args.lengths.now c.args.guesses c.args.list.now c.args.maps.now c.args.out.now (refused_limits c.args.limits c.args.tables.now c.args.lengths.now c.args.guesses c.args.list.now c.args.maps.now c.args.out.now (sym c.limits_fit.ensures ∙ c.if-not-limits_fit.true)) in
    record { answers = the_facts.0; promises = the_facts.1; number = says_run c.args.limits c.args.tables.now c.args.lengths.now c.args.guesses c.args.list.now c.args.maps.now c.args.out.now the_facts.0 }

pub returns-then-not-lengths_fit : goal.returns-then-not-lengths_fit
returns-then-not-lengths_fit c =
    let the_facts = promised c.args.limits c.args.tables.now c.args.lengths.now c.args.guesses c.args.list.now c.args.maps.now c.args.out.now (refused_lengths c.args.limits c.args.tables.now c.args.lengths.now c.args.guesses c.args.list.now c.args.maps.now c.args.out.now (sym c.limits_fit.ensures ∙ c.if-not-limits_fit.false) (sym c.lengths_fit.ensures ∙ c.if-not-lengths_fit.true)) in
    record { answers = the_facts.0; promises = the_facts.1; number = says_run c.args.limits c.args.tables.now c.args.lengths.now c.args.guesses c.args.list.now c.args.maps.now c.args.out.now the_facts.0 }

pub nonzero_div-guesses : goal.nonzero_div-guesses
nonzero_div-guesses c =
    let fits : lengths_fit (length c.args.tables.now) c.args.lengths.now ≡ true = sym c.lengths_fit.ensures ∙ c.if-not-lengths_fit.false in
    let f = fitting _ _ fits in omega (arith, f.some)

pub run-requires : goal.run-requires
run-requires c =
    let fits : lengths_fit (length c.args.tables.now) c.args.lengths.now ≡ true = sym c.lengths_fit.ensures ∙ c.if-not-lengths_fit.false in
    (fits, omega (arith, shares_within c.args.guesses (length c.args.lengths.now), c.ranges.guesses))

pub returns : goal.returns
returns c =
    let fits : lengths_fit (length c.args.tables.now) c.args.lengths.now ≡ true = sym c.lengths_fit.ensures ∙ c.if-not-lengths_fit.false in
    let the_facts = promised c.args.limits c.args.tables.now c.args.lengths.now c.args.guesses c.args.list.now c.args.maps.now c.args.out.now (reduced c.args.limits c.args.tables.now c.args.lengths.now c.args.guesses c.args.list.now c.args.maps.now c.args.out.now (sym c.limits_fit.ensures ∙ c.if-not-limits_fit.false) fits c.run.ensures) in
    record { answers = the_facts.0; promises = the_facts.1; number = says_run c.args.limits c.args.tables.now c.args.lengths.now c.args.guesses c.args.list.now c.args.maps.now c.args.out.now the_facts.0 }
