-- `lash_forces::stiffness_of`: the products fit 64 bits, and a lash in its limits meets what `stiffness` requires (LashLaws).
use native.Mathlib.Omega.{arith}
use Rattle.statics.specs.Inner.WholeNumbers.{stiffness_of}
use Rattle.lash_forces.proofs.LashLaws.{load_le, side_le, long_le, cube_above, quotient_le}
use Rattle.lash_forces.proofs.stiffness_of.Goals as goal

pub overflow_mul-l : goal.overflow_mul-l
overflow_mul-l c =
    omega (arith, load_le c.requires.0 c.requires.1)

pub overflow_mul-ly : goal.overflow_mul-ly
overflow_mul-ly c =
    omega (arith, side_le c.requires.0 c.requires.1)

pub stiffness-requires : goal.stiffness-requires
stiffness-requires c =
    let f = c.requires.0 in
    let e = c.requires.1 in record { load_bound = (load_le f e, side_le f e, long_le f e); long_nonzero = (cube_above f e, quotient_le f e) }

pub returns : goal.returns
unfolding stiffness_of
returns c =
    rw (← c.requires.1) c.stiffness.ensures
