-- `fit_rounds::rows::any` meets its contract. Assumes nothing.
use mathlib.Core.Path.{◌≡◌, ap, ◌∙◌}
use Prim.Native.Nat.{◌+◌, ◌-◌, ◌*◌}
use native.Mathlib.Omega.{arith}
use mathlib.Core.Bool.{not}
use lib.ListN.{take, drop}
use lib.Dec.{eqb}
use Rattle.lists.specs.Lists.{any}
use Rattle.fit_rounds.proofs.Holding.{row_any, any_told}
use Rattle.fit_rounds.proofs.rows.any.Goals as goal

pub returns : goal.returns
returns c = λ F h.
    let u = c.args.u in
    let rows = c.args.rows.now in
    let e : u * 10 + 10 - u * 10 ≡ 10 = omega arith in
    c.some_set.ensures ∙ ap (λ k. any (λ w. not (eqb w 0)) (take k (drop (u * 10) rows))) e ∙ row_any 10 u rows (omega (arith, h.long, c.requires)) ∙ any_told h _ c.requires
