-- `sheet_limits::breaking_fits`: the test of a breaking load is the definition's.
use mathlib.Core.Path.{refl}
use Rattle.sheet.specs.Layout.{breaking_fits}
use Rattle.sheet_limits.proofs.breaking_fits.Goals as goal

pub returns : goal.returns
unfolding breaking_fits
returns c = refl
