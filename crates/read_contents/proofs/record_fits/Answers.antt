-- `read_contents::record_fits` meets its contract, test by test. Assumes nothing.
use mathlib.Core.Path.{◌∙◌}
use Rattle.read_contents.proofs.Fits as fits
use Rattle.read_contents.proofs.record_fits.Goals as goal

pub returns-then-fields-lt2 : goal.returns-then-fields-lt2
returns-then-fields-lt2 c = fits.too_short _ _ _ c.if-fields-lt2.true

pub returns-then-states-from : goal.returns-then-states-from
returns-then-states-from c = fits.state-past _ _ _ _ c.if-fields-lt2.false (rw c.from.ensures at c.if-states-from.true)

pub returns-then-symbols-symbol : goal.returns-then-symbols-symbol
returns-then-symbols-symbol c =
    fits.symbol-past _ _ _ _ c.if-fields-lt2.false (rw c.from.ensures at c.if-states-from.false) (rw c.from-symbol.ensures at c.if-symbols-symbol.true)

pub returns-then-symbols-symbol-2 : goal.returns-then-symbols-symbol-2
returns-then-symbols-symbol-2 c =
    fits.other_kind _ _ _ _ c.if-fields-lt2.false (rw c.from.ensures at c.if-states-from.false) (rw c.from-symbol.ensures at c.if-symbols-symbol.false) (rw c.from-symbol.ensures at c.if-symbols-symbol-2.true)

pub returns : goal.returns
returns c =
    c.all_below.ensures ∙ fits.by_others _ _ _ _ c.if-fields-lt2.false (rw c.from.ensures at c.if-states-from.false) (rw c.from-symbol.ensures at c.if-symbols-symbol.false) (rw c.from-symbol.ensures at c.if-symbols-symbol-2.false)
