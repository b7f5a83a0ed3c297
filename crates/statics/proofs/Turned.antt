-- A box that stands turned: its springs change ends, and nothing else of it changes.
use mathlib.Core.Path.{refl}
use Rattle.statics.specs.Loads.{weight, transverse, vertical_force, box_length, wind}
use Rattle.statics.specs.Theorems.{OwnSprings, TurnSwapsSprings, TurnKeepsForces}

pub own_springs : OwnSprings
own_springs t e = rw e (refl, refl)

pub turn_swaps_springs : TurnSwapsSprings
turn_swaps_springs t u p q = record { at_door = rw (p, q) refl; at_closed = rw (p, q) refl }

pub turn_keeps_forces : TurnKeepsForces
unfolding transverse weight wind box_length vertical_force
turn_keeps_forces t u s =
    record {
      transverse_same = λ factor. rw s.same refl;
      wind_same = rw (s.as_exposed, s.same) refl;
      most_same = rw s.same refl;
      least_same = rw s.same refl;
      height_same = rw s.same refl;
    }
