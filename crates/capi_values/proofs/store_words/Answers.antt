-- `capi_values::store_words` meets its contract. Assumes nothing.
use lib.ListN.{set}
use native.Mathlib.Omega.{arith}
use mathlib.Core.Path.{ap, ◌∙◌}
use Rattle.capi_values.proofs.Storing.{last-short, last_stored}
use Rattle.capi_values.proofs.store_words.Goals as goal

pub returns-then-values-lt41 : goal.returns-then-values-lt41
returns-then-values-lt41 c =
    last-short c.args.words.now _ c.args.last c.requires c.if-values-lt41.true

pub returns : goal.returns
returns c =
    ap (λ r. set r 40 c.args.last) c.store.ensures ∙ last_stored c.args.words.now _ c.args.last c.requires (omega (arith, c.if-values-lt41.false))
