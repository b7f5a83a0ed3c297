-- `bay_outlines::outlines`: after k turns the array holds the first k outlines, then empty rows.
use Prim.Native.Nat.{◌+◌, ◌*◌, ◌≤◌}
use mathlib.Core.List.{map}
use mathlib.Core.Path.{◌≡◌}
use Rattle.arith.specs.Lists.{below, padded}
use Rattle.bay_wind.specs.Exposure.{empty_row}
use Rattle.bay_rows.specs.Bay.{row_place, row_of, outline_of}
use Rattle.bay_outlines.proofs.outlines.Given as goal

abbrev pub invariant-loop-k : goal.invariant-loop-k
invariant-loop-k l =
    (l.at ≡ row_place l.bay l.k)
    × (l.at ≤ 1 + 65537 * l.k)
    × (l.outlines ≡ padded 24 empty_row (map (λ j. outline_of (row_of l.bay j)) (below l.k)))
