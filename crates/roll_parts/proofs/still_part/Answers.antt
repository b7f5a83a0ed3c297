-- `roll_parts::still_part`: no step leaves 64 bits.
use mathlib.Core.Path.{refl}
use native.Mathlib.Omega.{arith}
use Rattle.roll_parts.proofs.Bounds.{heave_most, still_most}
use Rattle.roll_parts.proofs.still_part.Goals as goal

pub overflow_mul-result-2 : goal.overflow_mul-result-2
overflow_mul-result-2 c = omega (arith, heave_most c.requires.0 c.requires.1 c.requires.2 c.requires.3)

pub overflow_add-result : goal.overflow_add-result
overflow_add-result c = omega (arith, heave_most c.requires.0 c.requires.1 c.requires.2 c.requires.3)

pub overflow_mul-result-3 : goal.overflow_mul-result-3
overflow_mul-result-3 c = omega (arith, still_most c.requires.0 c.requires.1 c.requires.2 c.requires.3)

pub returns : goal.returns
returns c = (refl, omega (arith, still_most c.requires.0 c.requires.1 c.requires.2 c.requires.3))
