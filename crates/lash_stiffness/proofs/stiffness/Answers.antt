-- `lash_stiffness::stiffness`: the products fit 64 bits, and either way gives the quotient.
use mathlib.Core.Path.{refl}
use native.Mathlib.Nat.{mul-le-mul}
use native.Mathlib.Omega.{arith}
use Rattle.lash_stiffness.proofs.Remainders.{square_le, cube_le}
use Rattle.lash_stiffness.proofs.stiffness.Goals as goal

pub overflow_mul-force : goal.overflow_mul-force
overflow_mul-force c = omega (arith, mul-le-mul c.requires.load_bound.0 c.requires.load_bound.1)

pub overflow_mul-square : goal.overflow_mul-square
overflow_mul-square c = omega (arith, square_le c.requires.load_bound.2)

pub overflow_mul-cube : goal.overflow_mul-cube
overflow_mul-cube c = omega (arith, cube_le c.requires.load_bound.2)

pub candidate-q-requires : goal.candidate-q-requires
candidate-q-requires c =
    let p = c.requires.load_bound in
    (p.0, p.1, cube_le p.2)

pub is_quotient-requires : goal.is_quotient-requires
is_quotient-requires c =
    let p = c.requires.load_bound in
    (c.candidate-q.ensures, p.2, square_le p.2, refl)

pub returns-then-is_quotient : goal.returns-then-is_quotient
returns-then-is_quotient c = c.is_quotient.ensures c.if-is_quotient.true

pub over_cube-requires : goal.over_cube-requires
over_cube-requires c =
    let p = c.requires in
    (p.long_nonzero.0, cube_le p.load_bound.2, p.long_nonzero.1)

pub returns : goal.returns
returns c = c.over_cube.ensures
