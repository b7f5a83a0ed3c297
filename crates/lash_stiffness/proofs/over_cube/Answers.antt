-- `lash_stiffness::over_cube`: both ways of scaling give the same quotient.
use native.Mathlib.Omega.{arith}
use lib.Dec.{lit<}
use Rattle.lash_stiffness.proofs.over_cube.Goals as goal

pub scaled-requires : goal.scaled-requires
scaled-requires c =
    let p = c.requires in
    (p.0, omega arith, omega (arith, p.2))

pub returns-then-cube-lt4398046511104 : goal.returns-then-cube-lt4398046511104
returns-then-cube-lt4398046511104 c = c.scaled.ensures

pub scaled_twice-requires : goal.scaled_twice-requires
scaled_twice-requires c =
    let p = c.requires in
    (p.0, lit< tt, omega (arith, p.1), omega (arith, p.1), omega (arith, p.2))

pub returns : goal.returns
returns c = c.scaled_twice.ensures
