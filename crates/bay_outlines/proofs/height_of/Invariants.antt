-- `bay_outlines::height_of`: after k turns the height of the first k tiers.
use Prim.Native.Nat.{◌*◌, ◌≤◌}
use mathlib.Core.Path.{◌≡◌}
use Rattle.sheet.specs.Layout.{tiers_in}
use Rattle.bay_wind.specs.Exposure.{height_of}
use Rattle.bay_outlines.proofs.height_of.Given as goal

abbrev pub invariant-loop-k : goal.invariant-loop-k
invariant-loop-k l = (l.height ≡ height_of (tiers_in l.row l.n) l.k) × (l.height ≤ 65535 * l.k)
