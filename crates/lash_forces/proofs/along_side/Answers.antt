-- `lash_forces::along_side`: the products are in range, and so is the result.
use mathlib.Core.Path.{refl}
use Prim.Native.Nat.{◌/◌}
use native.Mathlib.Omega.{arith}
use Rattle.statics.specs.Inner.WholeNumbers.{along}
use Rattle.lash_forces.proofs.LashLaws.{rate_product, along_product}
use Rattle.lash_forces.proofs.along_side.Goals as goal

pub overflow_mul-result : goal.overflow_mul-result
overflow_mul-result c = omega (arith, rate_product c.requires.0 c.requires.1)

pub overflow_mul-result-2 : goal.overflow_mul-result-2
overflow_mul-result-2 c = omega (arith, along_product c.requires.0 c.requires.1 (c.args.x / 256))

pub returns : goal.returns
unfolding along
returns c = (refl, omega (arith, along_product c.requires.0 c.requires.1 (c.args.x / 256)))
