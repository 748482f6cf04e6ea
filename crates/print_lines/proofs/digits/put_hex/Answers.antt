-- `print_lines::digits::put_hex` meets its contract. The loop's invariant: the first bytes stand as text. Assumes nothing.
use native.Mathlib.Omega.{arith}
use lib.ListN.{length-set}
use Rattle.print_lines.proofs.Text.{none_hexed, hexed_length, hex_on, hex_all}
use Rattle.print_lines.proofs.digits.put_hex.Goals as goal

pub bytes-init : goal.bytes-init
bytes-init c = none_hexed _ _ c.requires

pub bounds-text-at : goal.bounds-text-at
bounds-text-at c =
    omega (arith, hexed_length _ _ _ _ c.bytes.invariant, c.bytes.invariant.room, c.bytes-test.true)

pub bounds-text-at-in-bytes : goal.bounds-text-at-in-bytes
bounds-text-at-in-bytes c =
    simp length-set (omega (arith, hexed_length _ _ _ _ c.bytes.invariant, c.bytes.invariant.room, c.bytes-test.true))

pub bounds-text-at-in-bytes-2 : goal.bounds-text-at-in-bytes-2
bounds-text-at-in-bytes-2 c =
    simp length-set (omega (arith, hexed_length _ _ _ _ c.bytes.invariant, c.bytes.invariant.room, c.bytes-test.true))

pub bytes-preserved : goal.bytes-preserved
bytes-preserved c =
    hex_on _ _ _ _ c.bytes.invariant c.digit.result c.digit-in-bytes.result c.bytes-test.true c.digit.ensures c.digit-in-bytes.ensures

pub shape_of-text : goal.shape_of-text
shape_of-text c = hexed_length _ _ _ _ c.bytes.invariant

pub returns : goal.returns
returns c = hex_all _ _ _ _ c.bytes.invariant c.bytes-test.false
