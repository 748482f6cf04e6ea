-- `reduce::deliver_held` meets its contract: the map of the trial held, the quotient under it, and then the map is written. Assumes nothing.
use mathlib.Core.Path.{◌≡◌, refl, sym}
use Rattle.refusals.proofs.Numbers.{passed_up}
use mathlib.Core.List.{List, ◌++◌}
use Prim.Native.Nat.{ℕ}
use lib.ListN.{length, take, drop}
use lib.Seq.{take_all}
use native.Mathlib.Omega.{arith}
use Rattle.reduce.proofs.Stages as laws
use Rattle.reduce.proofs.deliver_held.Goals as goal

-- a copy to the front of a buffer, as the library's copying says it
copied_front :
    (n : ℕ) (xs a : List ℕ) {new : List ℕ} → new ≡ take n xs → length (take n xs) ≡ n
    → new ++ drop n a ≡ take (length (take n xs)) (take n xs) ++ drop (length (take n xs)) a
copied_front n xs a e l = rw (e, take_all (length (take n xs)) (take n xs) (omega arith), l)

pub map_of-classes-requires : goal.map_of-classes-requires
map_of-classes-requires c =
    (c.requires.n_within.0, omega (arith, c.requires.held_for.long))

pub slice_bounds-quotient_known-end : goal.slice_bounds-quotient_known-end
slice_bounds-quotient_known-end c =
    sym (laws.prefix_long c.map_of-classes.result.map c.args.n c.map_of-classes.ensures.long c.requires.n_within.0)

pub returns-in_err-length : goal.returns-in_err-length
returns-in_err-length c =
    λ L readable list. laws.not_delivered L c.args.examined.now.bytes.now list c.args.map.now c.args.out.now c.args.values.now c.args.n c.args.made.guesses c.args.ceiling c.args.made.spent c.map_of-classes.ensures (c.in_err-length.ensures L readable) (passed_up c.from_residual.ensures) refl

pub returns : goal.returns
returns c =
    λ L readable list. laws.delivered L c.args.examined.now.bytes.now list c.args.map.now c.args.out.now c.args.values.now c.args.n c.args.made.guesses c.args.ceiling c.args.made.spent c.map_of-classes.ensures (c.in_ok-length.ensures L readable) c.requires.held_for c.not_false-joined.ensures refl c.requires.words_of_list (copied_front c.args.n c.map_of-classes.result.map c.args.map.now c.copy_from_slice.ensures.after (laws.prefix_long c.map_of-classes.result.map c.args.n c.map_of-classes.ensures.long c.requires.n_within.0))
