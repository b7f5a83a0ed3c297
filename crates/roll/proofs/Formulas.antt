-- CR's formulas as they are computed: A_T and A_VMAX as one sum, A_VMIN as the difference, each rounded as document 02 says.
use mathlib.Core.Path.{◌≡◌, refl}
use Rattle.arith.specs.Fractions.{nat, ◌-q◌, ◌*q◌}
use Rattle.arith.specs.Wholes.{floor, ceiling}
use Rattle.roll.specs.declared.Condition.{Condition}
use Rattle.roll.specs.ConditionA.{metres, a_t, a_vmax, a_vmin}
use Rattle.roll.specs.Rounded.{cut, transverse, vertical_most, vertical_least}
use Rattle.roll.specs.Inner.Sums.{sum, difference}

module _ (g : Condition) where
  pub transverse_is : transverse g ≡ ceiling (nat 1000 *q sum g g.sine (metres g.z -q metres g.centre))
  unfolding transverse a_t sum
  transverse_is = refl

  pub most_is : vertical_most g ≡ ceiling (nat 1000 *q sum g g.cosine (metres g.y))
  unfolding vertical_most a_vmax sum
  most_is = refl

  pub least_is : vertical_least g ≡ cut (floor (nat 1000 *q difference g g.cosine (metres g.y)))
  unfolding vertical_least a_vmin difference
  least_is = refl
