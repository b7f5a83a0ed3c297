-- `sheet::route_percent`: the percents of the table, and their range.
use mathlib.Core.Path.{refl}
use Rattle.sheet.proofs.Routes.{percent_range}
use Rattle.sheet.proofs.route_percent.Goals as goal

pub returns : goal.returns
returns c = let p = percent_range c.args.route c.requires in (refl, p.0, p.1)
