-- `arith::rounding::split_product_up` multiplies by the parts of y over m, then divides by n, upwards both times.
use native.Mathlib.Omega.{arith}
use Rattle.arith.proofs.Quotients.{part_le, up_part_le, split_up_twice}
use Rattle.arith.proofs.rounding.split_product_up.Goals as goal

pub overflow_mul-x-2 : goal.overflow_mul-x-2
overflow_mul-x-2 c = omega (arith, part_le c.args.x c.args.y c.args.m c.requires.0)

pub overflow_add-x : goal.overflow_add-x
overflow_add-x c =
    omega (arith, c.ceil_div.ensures.0, up_part_le c.args.x c.args.y c.args.m c.requires.0)

pub returns : goal.returns
returns c =
    rw (c.ceil_div-2.ensures.0, c.ceil_div.ensures.0)
    (split_up_twice c.args.x c.args.y c.args.m c.requires.0 c.args.n c.requires.1)
