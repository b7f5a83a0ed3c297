-- `roll_parts::rounded_up`: the sum of whole thousandths and rounded parts.
use Prim.Native.Nat.{◌+◌}
use native.Mathlib.Nat.{div-le_self}
use native.Mathlib.Omega.{arith}
use Rattle.roll_parts.proofs.rounded_up.Goals as goal

pub overflow_add-result : goal.overflow_add-result
overflow_add-result c =
    let a = c.args in
    omega (arith, c.ceil_div.ensures.1, div-le_self (a.still + a.roll.rest) a.parts)
