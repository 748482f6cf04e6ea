-- `read::read_fit` meets its contract: the first refusal that applies, or the starts. Assumes nothing.
use mathlib.Core.Path.{sym, ap, ◌∙◌}
use Rattle.table_spec.specs.Reading.{version_fits}
use Rattle.refusals.proofs.Numbers.{passed_up}
use Rattle.read.proofs.Numbers as numbers
use Rattle.read.proofs.read_fit.Goals as goal

pub returns-then-length-lt12 : goal.returns-then-length-lt12
returns-then-length-lt12 c = numbers.file_short _ c.requires _ c.if-length-lt12.true

pub returns-then-longest-length : goal.returns-then-longest-length
returns-then-longest-length c = numbers.file_long _ c.requires _ c.if-length-lt12.false (rw c.longest_file-longest.ensures at c.if-longest-length.true)

pub returns-then-not-version_fits : goal.returns-then-not-version_fits
returns-then-not-version_fits c =
    numbers.file_version _ c.requires _ c.if-length-lt12.false (rw c.longest_file-longest.ensures at c.if-longest-length.false) (ap version_fits (sym c.version_of-versioned.ensures) ∙ sym c.version_fits.ensures ∙ c.if-not-version_fits.true)

pub returns-then-not-distances_fit : goal.returns-then-not-distances_fit
returns-then-not-distances_fit c =
    numbers.file_distances _ c.requires _ c.if-length-lt12.false (rw c.longest_file-longest.ensures at c.if-longest-length.false) (ap version_fits (sym c.version_of-versioned.ensures) ∙ sym c.version_fits.ensures ∙ c.if-not-version_fits.false) (sym c.distances_fit.ensures ∙ c.if-not-distances_fit.true)

pub returns-in_err-test_sections : goal.returns-in_err-test_sections
returns-in_err-test_sections c =
    passed_up c.from_residual.ensures
    ∙ numbers.table_refused _ c.requires _ c.if-length-lt12.false (rw c.longest_file-longest.ensures at c.if-longest-length.false) (ap version_fits (sym c.version_of-versioned.ensures) ∙ sym c.version_fits.ensures ∙ c.if-not-version_fits.false) (sym c.distances_fit.ensures ∙ c.if-not-distances_fit.false) (sym c.in_err-test_sections.ensures)

pub returns : goal.returns
returns c =
    numbers.table_read _ c.requires _ c.if-length-lt12.false (rw c.longest_file-longest.ensures at c.if-longest-length.false) (ap version_fits (sym c.version_of-versioned.ensures) ∙ sym c.version_fits.ensures ∙ c.if-not-version_fits.false) (sym c.distances_fit.ensures ∙ c.if-not-distances_fit.false) (sym c.in_ok-test_sections.ensures) c.starts_at-starts.ensures
