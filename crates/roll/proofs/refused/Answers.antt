-- `roll::refused`: each test is that of its place in 18's row.
use mathlib.Core.Path.{refl}
use mir.Syntax.{w32}
use mir.ValLaws.{to_z-of_z}
use borrow.Author.Rules.{rules}
use Rattle.roll.proofs.refused.Goals as goal

pub returns : goal.returns
returns c =
    let g = c.args.given in
    let centre = to_z-of_z w32 g.centre (search rules) in
    let x = to_z-of_z w32 g.x (search rules) in
    let y = to_z-of_z w32 g.y (search rules) in
    let z = to_z-of_z w32 g.z (search rules) in
    simp (
      c.far.ensures,
      c.far-2.ensures,
      c.far-3.ensures,
      c.far-4.ensures,
      c.along.ensures,
      c.off_unit.ensures,
      centre,
      x,
      y,
      z,
    )
    refl
