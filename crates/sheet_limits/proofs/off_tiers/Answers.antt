-- `sheet_limits::off_tiers`: the test of a lash's tier is the definition's.
use mathlib.Core.Path.{refl}
use Rattle.sheet.specs.Refusals.{off_tiers}
use Rattle.sheet_limits.proofs.off_tiers.Goals as goal

pub returns : goal.returns
unfolding off_tiers
returns c = refl
