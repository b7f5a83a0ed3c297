-- `roll::transverse`: the sum by the sine, at the distance from the roll centre.
use mathlib.Core.Path.{sym, ◌∙◌}
use mir.Syntax.{w32}
use mir.ValLaws.{to_z-of_z}
use Rattle.arith.specs.Fractions.{◌-q◌}
use Rattle.roll.specs.ConditionA.{metres}
use Rattle.roll.proofs.Formulas.{transverse_is}
use Rattle.roll.proofs.Ranges.{length32}
use Rattle.roll.proofs.Scales.{apart_metres}
use Rattle.roll.proofs.transverse.Goals as goal

pub returns : goal.returns
returns c =
    let z = c.args.given.z in
    let centre = c.args.given.centre in
    let far = simp (to_z-of_z w32 z (length32 z c.requires.z), to_z-of_z w32 centre (length32 centre c.requires.centre))
    at c.distance.ensures.0
    in
    c.together.ensures (metres z -q metres centre) (rw far (apart_metres z centre)) ∙ sym (transverse_is c.args.given)
