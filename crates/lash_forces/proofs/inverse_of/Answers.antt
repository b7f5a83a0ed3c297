-- `lash_forces::inverse_of`: 2^46 / LY, and its greatest.
use mathlib.Core.Path.{refl}
use Rattle.statics.specs.Inner.WholeNumbers.{inverse}
use Rattle.lash_forces.proofs.LashLaws.{inverse_le}
use Rattle.lash_forces.proofs.inverse_of.Goals as goal

pub returns : goal.returns
unfolding inverse
returns c = (refl, inverse_le c.requires)
