-- `bay_rows::end_place`: after k turns the place of row k.
use Prim.Native.Nat.{◌+◌, ◌*◌, ◌≤◌}
use mathlib.Core.Path.{◌≡◌}
use Rattle.bay_rows.specs.Bay.{row_place}
use Rattle.bay_rows.proofs.end_place.Given as goal

abbrev pub invariant-loop : goal.invariant-loop
invariant-loop l = (l.at ≡ row_place l.bay l.counter) × (l.at ≤ 1 + 65537 * l.counter)
