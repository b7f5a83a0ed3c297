-- `limits::other_factor`, by whether the steel is of higher strength.
use mathlib.Core.Bool.{Bool, true, false, cond}
use mathlib.Core.Path.{◌≡◌, refl}
use Prim.Native.Nat.{◌+◌, ◌*◌, ◌≤◌}
use native.Mathlib.Omega.{arith}
use mir.Val.{bool_byte}
use Rattle.limits.proofs.other_factor.Goals as goal

at_most : (strong : Bool) → 33 * bool_byte strong ≤ 33
at_most true = omega arith
at_most false = omega arith

one_of : (strong : Bool) → 167 + 33 * bool_byte strong ≡ cond strong 200 167
one_of true = refl
one_of false = refl

pub overflow_mul-result : goal.overflow_mul-result
overflow_mul-result c = omega (arith, at_most c.args.strong)

pub overflow_add-result : goal.overflow_add-result
overflow_add-result c = omega (arith, at_most c.args.strong)

pub returns : goal.returns
returns c = (one_of c.args.strong, omega (arith, at_most c.args.strong))
