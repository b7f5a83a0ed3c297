-- `side_walls::round_up`: from the bottom up, with the sum of the rackings passed (Loops).
use Rattle.side_walls.proofs.Loops.{RoundedSoFar}
use Rattle.side_walls.proofs.round_up.Given as goal

abbrev pub invariant-loop-i : goal.invariant-loop-i
invariant-loop-i l = RoundedSoFar l.units l.racking l.shift l.sum l.i
