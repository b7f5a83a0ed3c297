-- `sheet_limits::tier_fits`: the test of a tier's fields is the definition's.
use mathlib.Core.Path.{refl}
use Rattle.sheet.specs.Layout.{tier_fits}
use Rattle.sheet_limits.proofs.tier_fits.Goals as goal

pub returns : goal.returns
unfolding tier_fits
returns c = refl
