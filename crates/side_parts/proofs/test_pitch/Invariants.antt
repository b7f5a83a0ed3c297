-- `side_parts::test_pitch`: 14, then 15 tier by tier (ShortSheets).
use Prim.Native.Nat.{◌+◌, ◌*◌}
use mathlib.Core.Path.{◌≡◌}
use lib.ListN.{length}
use Rattle.sheet.specs.Refusals.{first}
use Rattle.side_parts.specs.ShortSheets.{pitch_rows}
use Rattle.side_parts.proofs.ShortSheets.{from_tier}
use Rattle.side_parts.proofs.test_pitch.Given as goal

abbrev pub invariant-loop-i : goal.invariant-loop-i
invariant-loop-i l = (length l.pitch ≡ 1 + 2 * l.n) × (first (from_tier l.n l.pitch l.i) ≡ first (pitch_rows l.n l.pitch))
