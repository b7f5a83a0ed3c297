-- `figures_tiers::wind_of`, by the test of exposure.
use native.Mathlib.Nat.{mul-le-mul}
use native.Mathlib.Omega.{arith}
use lib.Dec.{lit≤}
use Rattle.statics.specs.Inner.WholeNumbers.{wind_units}
use Rattle.figures_tiers.proofs.wind_of.Goals as goal

pub overflow_mul-result-then-exposed : goal.overflow_mul-result-then-exposed
overflow_mul-result-then-exposed c =
    omega (arith, mul-le-mul c.box_length.ensures.1 c.requires.height)

pub returns-then-exposed : goal.returns-then-exposed
unfolding wind_units
returns-then-exposed c =
    let e = c.box_length.ensures in (
      simp (← c.exposed.ensures, c.if-exposed.true, e.0),
      omega (arith, mul-le-mul e.1 c.requires.height),
    )

pub returns : goal.returns
unfolding wind_units
returns c = (simp (← c.exposed.ensures, c.if-exposed.false), lit≤ tt)
