-- `side_walls::round_up`: from the bottom up, with the sum of the rackings passed (Loops).
use native.Mathlib.Omega.{arith}
use Rattle.side_walls.proofs.Loops.{rounded_none, rounded_more}
use Rattle.side_walls.proofs.round_up.Goals as goal

pub loop-i-init : goal.loop-i-init
loop-i-init c = rounded_none

pub loop-i-preserved : goal.loop-i-preserved
loop-i-preserved c =
    rounded_more (omega (arith, c.requires.0)) c.loop-i.invariant (c.requires.1 _ (omega arith)) c.ceil_div.ensures c.ceil_div-in-loop-i.ensures
