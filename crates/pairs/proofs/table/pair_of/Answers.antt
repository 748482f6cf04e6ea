-- `pairs::table::pair_of` meets its contract. Assumes nothing.
use Prim.Native.Nat.{ℕ}
use native.Mathlib.Omega.{arith}
use lib.ListN.{get_or-eq_default as get_or_past}
use Rattle.pairs.proofs.table.pair_of.Goals as goal

pub returns-then-table-at : goal.returns-then-table-at
returns-then-table-at c = rw (get_or_past {A = ℕ} _ 0 c.if-table-at.true)

pub overflow_cast-result-2 : goal.overflow_cast-result-2
overflow_cast-result-2 c = record { fits = omega (arith, c.shared_slice_known-1.given c.args.v) }
