-- `arith::rounding::scaled_twice` scales by m, then by n from the remainder.
use Prim.Native.Nat.{◌*◌, ◌%◌}
use native.Mathlib.Omega.{arith}
use Rattle.arith.proofs.Quotients.{rest_le, split_twice, twice_le, once_le}
use Rattle.arith.proofs.rounding.scaled_twice.Goals as goal

pub overflow_mul-r : goal.overflow_mul-r
overflow_mul-r c = omega (arith, rest_le c.args.x c.args.m c.args.c c.requires.0)

pub scaled-requires : goal.scaled-requires
scaled-requires c =
    let l = once_le c.args.x c.args.m c.args.n c.args.c c.requires.0 c.requires.1 in
    (c.requires.0, c.requires.2, omega (arith, l))

pub overflow_mul-result : goal.overflow_mul-result
overflow_mul-result c =
    rw c.scaled.ensures
    (omega (arith, twice_le c.args.x c.args.m c.args.n c.args.c c.requires.0))

pub overflow_mul-result-2 : goal.overflow_mul-result-2
overflow_mul-result-2 c =
    omega (
      arith,
      rest_le (c.args.x % c.args.c * c.args.m) c.args.n c.args.c
          c.requires.0,
    )

pub overflow_add-result : goal.overflow_add-result
overflow_add-result c =
    rw c.scaled.ensures
    (omega (arith, twice_le c.args.x c.args.m c.args.n c.args.c c.requires.0))

pub returns : goal.returns
returns c =
    rw c.scaled.ensures
    (split_twice c.args.x c.args.m c.args.n c.args.c c.requires.0)
