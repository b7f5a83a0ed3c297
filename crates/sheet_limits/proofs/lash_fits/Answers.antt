-- `sheet_limits::lash_fits`: the test of a lash's fields is the definition's.
use Rattle.sheet.specs.Layout.{lash_fits}
use Rattle.sheet_limits.proofs.lash_fits.Goals as goal

pub returns : goal.returns
unfolding lash_fits
returns c = rw c.breaking_fits.ensures
