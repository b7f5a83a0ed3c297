-- `lash_length::step`: the quotient is not above s.
use mathlib.Core.Path.{refl}
use native.Mathlib.Nat.{div-le_self}
use native.Mathlib.Omega.{arith}
use Rattle.lash_length.proofs.step.Goals as goal

pub overflow_add-result : goal.overflow_add-result
overflow_add-result c = omega (arith, div-le_self c.args.s c.args.x)

pub overflow_add-result-2 : goal.overflow_add-result-2
overflow_add-result-2 c = omega (arith, div-le_self c.args.s c.args.x)

pub returns : goal.returns
returns c = (refl, omega arith, omega (arith, div-le_self c.args.s c.args.x))
