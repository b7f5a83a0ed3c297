-- `bay_wind::neighbours_of`: the nearest loaded row on each side.
use Prim.Native.Nat.{◌+◌}
use borrow.Author.Rules.{part_to_end}
use native.Mathlib.Numerals.{add-one}
use Rattle.bay_wind.specs.Exposure.{neighbours_of}
use Rattle.bay_wind.proofs.neighbours_of.Goals as goal

pub returns : goal.returns
unfolding neighbours_of
returns c =
    let starboard = rw (part_to_end c.args.rows.now (c.args.k + 1), add-one c.args.k) at c.nearest_to_starboard.ensures in
    λ i. record { port = c.nearest_to_port.ensures i; starboard = starboard i }
