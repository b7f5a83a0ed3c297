-- `roll_parts::far`: above on either side.
use mir.Syntax.{w32}
use mir.ValLaws.{to_z-of_z}
use Rattle.roll_parts.proofs.Signs.{far_either}
use Rattle.roll_parts.proofs.far.Goals as goal

pub returns : goal.returns
returns c = simp (to_z-of_z w32 c.args.mm c.ranges.mm) (far_either c.args.mm)
