-- `figures_tiers::tier_load`: mass × A_T and the wind, within their ranges.
use mathlib.Core.Path.{refl}
use native.Mathlib.Nat.{mul-le-mul}
use native.Mathlib.Omega.{arith}
use Rattle.statics.specs.Inner.WholeNumbers.{transverse_units}
use Rattle.figures_tiers.proofs.tier_load.Goals as goal

pub overflow_mul-result : goal.overflow_mul-result
overflow_mul-result c =
    omega (arith, mul-le-mul c.requires.mass c.requires.aT)

pub returns : goal.returns
unfolding transverse_units
returns c =
    (refl, mul-le-mul c.requires.mass c.requires.aT, c.wind_of.ensures.0, c.wind_of.ensures.1)
