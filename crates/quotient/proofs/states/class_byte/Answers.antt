-- `quotient::states::class_byte` meets its contract. Assumes nothing.
use Rattle.quotient_spec.proofs.States.{bit-small}
use Rattle.quotient.proofs.ClassBytes.{mark-small, as_bit, byte_made}
use mathlib.Core.Path.{◌∙◌}
use Prim.Native.Nat.{◌+◌, ◌*◌, ◌≤◌}
use native.Mathlib.Omega.{arith}
use Rattle.quotient.proofs.states.class_byte.Goals as goal

-- the byte that is made is one
fits : (c : goal.After-member_mark-mark) → c.from-initial.result + 2 * c.from-accepting.result + 4 * c.member_mark-mark.result ≤ 255
fits c =
    let k = mark-small c.args.states.now c.args.map.now c.args.class (λ i. (c.shared_slice_known-1.given i).fits) in
    omega (arith, k, c.member_mark-mark.ensures, c.from-accepting.ensures, as_bit c.member_has-2.result, bit-small c.member_has-2.result, c.from-initial.ensures, as_bit c.member_has.result, bit-small c.member_has.result)

pub overflow_mul-result : goal.overflow_mul-result
overflow_mul-result c = omega (arith, fits c)

pub overflow_add-result : goal.overflow_add-result
overflow_add-result c = omega (arith, fits c)

pub overflow_mul-result-2 : goal.overflow_mul-result-2
overflow_mul-result-2 c = omega (arith, fits c)

pub overflow_add-result-2 : goal.overflow_add-result-2
overflow_add-result-2 c = omega (arith, fits c)

pub returns : goal.returns
returns c =
    byte_made _ _ _ c.member_has.ensures (c.from-initial.ensures ∙ as_bit _) c.member_has-2.ensures (c.from-accepting.ensures ∙ as_bit _) c.member_mark-mark.ensures
