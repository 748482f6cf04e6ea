-- `table_view::end_of` meets its contract: the trailer starts 12 bytes before the end, or at 0 where there are not so many. Assumes nothing.
use mathlib.Core.Path.{refl}
use native.Mathlib.Omega.{arith}
use Rattle.table_spec.specs.File.{trailer}
use Rattle.table_view.proofs.end_of.Goals as goal

pub returns-then-length-lt-TRAILER : goal.returns-then-length-lt-TRAILER
unfolding trailer
returns-then-length-lt-TRAILER c = omega (arith, c.if-length-lt-TRAILER.true)

pub returns : goal.returns
unfolding trailer
returns c = refl
