-- `bay_wind::nearest_to_port`: the rows not yet passed give what all rows to port give (Sides).
use Prim.Native.Nat.{◌-◌}
use mathlib.Core.List.{reverse}
use mathlib.Core.Path.{◌≡◌}
use lib.ListN.{length, take}
use Rattle.bay_wind.specs.Exposure.{nearest_behind, nearest_of}
use Rattle.bay_wind.proofs.nearest_to_port.Given as goal

abbrev pub invariant-loop-j : goal.invariant-loop-j
invariant-loop-j l = nearest_behind (length l.rows - l.j) (reverse (take l.j l.rows)) ≡ nearest_of (reverse l.rows)
