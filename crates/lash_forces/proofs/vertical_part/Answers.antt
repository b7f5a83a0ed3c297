-- `lash_forces::vertical_part`: the athwart part × LZ / LY, and its greatest.
use mathlib.Core.Path.{refl}
use native.Mathlib.Omega.{arith}
use Rattle.lash_forces.proofs.vertical_part.Goals as goal

pub returns : goal.returns
returns c =
    let a = c.along_side.ensures in
    let i = c.inverse_of.ensures in
    (rw (a.0, i.0) refl, omega (arith, a.1))
