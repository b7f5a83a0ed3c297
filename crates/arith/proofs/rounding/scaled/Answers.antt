-- `arith::rounding::scaled` scales the whole part of the quotient and the remainder.
use native.Mathlib.Omega.{arith}
use Rattle.arith.proofs.Quotients.{split_div, rest_le, rest_div_le}
use Rattle.arith.proofs.rounding.scaled.Goals as goal

pub overflow_mul-result : goal.overflow_mul-result
overflow_mul-result c = omega arith

pub overflow_mul-result-2 : goal.overflow_mul-result-2
overflow_mul-result-2 c = omega (arith, rest_le c.args.x c.args.m c.args.c c.requires.0)

pub overflow_add-result : goal.overflow_add-result
overflow_add-result c = omega (arith, rest_div_le c.args.x c.args.m c.args.c c.requires.0)

pub returns : goal.returns
returns c = split_div c.args.x c.args.m c.args.c c.requires.0
