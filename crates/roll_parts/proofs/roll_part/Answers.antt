-- `roll_parts::roll_part`: the product of what is over goes by its parts over the period, so that no step leaves 64 bits.
use mathlib.Core.Path.{refl}
use native.Mathlib.Omega.{arith}
use Rattle.roll_parts.specs.Inner.Parts.{turn_of}
use Rattle.roll_parts.proofs.Bounds.{turn_most, square_most, square_least, whole_most, scaled_most, split_most, rest_most}
use Rattle.roll_parts.proofs.roll_part.Goals as goal

pub overflow_mul-turn-2 : goal.overflow_mul-turn-2
overflow_mul-turn-2 c = omega (arith, turn_most c.requires.0 c.requires.3)

pub overflow_mul-over : goal.overflow_mul-over
overflow_mul-over c = omega (arith, square_most c.requires.1 c.requires.2)

pub overflow_mul-over-2 : goal.overflow_mul-over-2
overflow_mul-over-2 c = omega (arith, square_most c.requires.1 c.requires.2)

pub nonzero_div-result : goal.nonzero_div-result
nonzero_div-result c = omega (arith, square_least c.requires.1 c.requires.2)

pub nonzero_rem-turn : goal.nonzero_rem-turn
nonzero_rem-turn c = omega (arith, square_least c.requires.1 c.requires.2)

pub split_product_up-requires : goal.split_product_up-requires
split_product_up-requires c =
    let a = c.args in
    let p = c.requires.1 in
    let most = c.requires.2 in (
      p,
      p,
      scaled_most p most (turn_of a.angle a.distance) a.length c.requires.5,
      split_most p most (turn_of a.angle a.distance) a.length c.requires.5,
    )

pub returns : goal.returns
returns c =
    let a = c.args in
    let p = c.requires.1 in
    let most = c.requires.2 in
    let rest = rest_most p most (turn_of a.angle a.distance) a.length c.requires.5 in
    rw c.split_product_up.ensures (refl, whole_most p most (turn_most c.requires.0 c.requires.3), rest)
