-- `bay_answer::greatest_at`: after i turns the greatest of the first i sizes of both ends.
use Prim.Native.Nat.{◌≤◌, ◌^◌}
use mathlib.Core.Path.{◌≡◌}
use Rattle.bay_wind.specs.Sums.{larger}
use Rattle.bay_answer.specs.Inner.Totalled.{greatest_at}
use Rattle.bay_answer.proofs.greatest_at.Given as goal

abbrev pub invariant-loop-i : goal.invariant-loop-i
invariant-loop-i l =
    (l.greatest ≡ larger (greatest_at l.answer l.door l.i) (greatest_at l.answer l.closed l.i)) × (l.greatest ≤ 2 ^ 31)
