-- `roll::vertical_most`: the sum by the cosine, at the distance from the centreline.
use mathlib.Core.Path.{sym, ◌∙◌}
use lib.IntN.{+ℤ_idr}
use mir.Syntax.{w32}
use mir.ValLaws.{to_z-of_z}
use Rattle.roll.specs.ConditionA.{metres}
use Rattle.roll.proofs.Formulas.{most_is}
use Rattle.roll.proofs.Ranges.{length32}
use Rattle.roll.proofs.Scales.{size_metres}
use Rattle.roll.proofs.vertical_most.Goals as goal

pub returns : goal.returns
returns c =
    let y = c.args.given.y in
    let far = simp (to_z-of_z w32 y (length32 y c.requires.y), +ℤ_idr y) at c.distance.ensures.0 in
    c.together.ensures (metres y) (rw far (size_metres y)) ∙ sym (most_is c.args.given)
