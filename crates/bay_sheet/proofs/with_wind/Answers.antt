-- `bay_sheet::with_wind`: the wind alone is other.
use Rattle.bay_wind.specs.Exposure.{with_wind}
use Rattle.bay_sheet.proofs.with_wind.Goals as goal

pub returns : goal.returns
unfolding with_wind
returns c = cc
