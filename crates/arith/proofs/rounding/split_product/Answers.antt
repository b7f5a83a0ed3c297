-- `arith::rounding::split_product` multiplies by the parts of y over m, then divides by n.
use native.Mathlib.Omega.{arith}
use Rattle.arith.proofs.Quotients.{part_le, part_div_le, split_mul_twice}
use Rattle.arith.proofs.rounding.split_product.Goals as goal

pub overflow_mul-result-2 : goal.overflow_mul-result-2
overflow_mul-result-2 c = omega (arith, part_le c.args.x c.args.y c.args.m c.requires.0)

pub overflow_add-result : goal.overflow_add-result
overflow_add-result c = omega (arith, part_div_le c.args.x c.args.y c.args.m c.requires.0)

pub returns : goal.returns
returns c = split_mul_twice c.args.x c.args.y c.args.m c.args.n c.requires.0
