-- `side_walls::push_all`: from the top down, what is above is carried along (Loops).
use Rattle.side_walls.proofs.Loops.{PushedDown}
use Rattle.side_walls.proofs.push_all.Given as goal

abbrev pub invariant-loop-i : goal.invariant-loop-i
invariant-loop-i l = PushedDown l.t l.pitch l.units l.above l.i
