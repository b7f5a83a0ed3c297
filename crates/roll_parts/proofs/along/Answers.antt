-- `roll_parts::along`: both sides as signed numbers of 64 bits.
use mathlib.Core.Path.{refl}
use native.Mathlib.Omega.{arith}
use mir.Syntax.{w32, w64}
use mir.ValLaws.{to_z-of_z}
use Rattle.arith.proofs.ByteLaws.{wide64}
use Rattle.arith.proofs.Sizes.{divisor}
use Rattle.roll_parts.proofs.along.Goals as goal

pub overflow_cast-result : goal.overflow_cast-result
overflow_cast-result c = rw (to_z-of_z w32 c.args.x c.ranges.x) (wide64 c.ranges.x)

pub overflow_cast-result-2 : goal.overflow_cast-result-2
overflow_cast-result-2 c = rw (to_z-of_z w32 c.args.x c.ranges.x) (wide64 c.ranges.x)

pub returns : goal.returns
returns c =
    let f = c.ranges.x in
    simp (to_z-of_z w32 c.args.x f, to_z-of_z w64 c.args.x (wide64 f), divisor c.args.length (omega (arith, c.ranges.length))) refl
