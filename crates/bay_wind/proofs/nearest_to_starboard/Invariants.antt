-- `bay_wind::nearest_to_starboard`: the rows not yet passed give what all rows to starboard give (Sides).
use mathlib.Core.Path.{◌≡◌}
use lib.ListN.{drop}
use Rattle.bay_wind.specs.Exposure.{nearest_behind, nearest_of}
use Rattle.bay_wind.proofs.nearest_to_starboard.Given as goal

abbrev pub invariant-loop-j : goal.invariant-loop-j
invariant-loop-j l = nearest_behind l.j (drop l.j l.rows) ≡ nearest_of l.rows
