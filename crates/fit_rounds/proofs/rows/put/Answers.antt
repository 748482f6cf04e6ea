-- `fit_rounds::rows::put` meets its contract. Assumes nothing.
use mathlib.Core.Path.{sym, subst}
use Prim.Native.Nat.{ℕ, ◌+◌, ◌*◌, ◌/◌, ◌^◌}
use lib.ListN.{get_or, set}
use lib.Bits.{bit_or}
use Rattle.tops_spec.specs.Tops.{add}
use Rattle.fit_rounds.specs.Rows.{Holds, with_bit}
use Rattle.fit_rounds.proofs.Holding.{put_holds}
use Rattle.fit_rounds.proofs.rows.put.Goals as goal

pub returns : goal.returns
unfolding with_bit
returns c = λ F h l.
    let i = c.args.u * 10 + c.args.x / 64 in
    subst (λ (w : ℕ). Holds (set c.args.rows.now i (bit_or (get_or c.args.rows.now i 0) w)) (add F c.args.u (2 ^ c.args.x))) (sym c.bit.ensures) (put_holds h c.args.u c.args.x l c.requires.1)
