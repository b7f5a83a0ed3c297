-- `tier_springs::springs_of`: from the lowest tier up, each tier's spring at both ends (SpringLaws).
use Prim.Native.Nat.{◌≤◌}
use native.Mathlib.Omega.{arith}
use lib.ListN.{length, take, length-take}
use Rattle.tier_springs.proofs.SpringLaws.{springs_all}
use Rattle.tier_springs.proofs.springs_of.Goals as goal

pub returns : goal.returns
returns c =
    let ts = take c.args.n c.args.tiers in
    let all : length ts ≤ c.loop-i.i = simp length-take (omega arith) in
    (springs_all 3730 15690 ts all c.loop-i.invariant.0, springs_all 15690 3730 ts all c.loop-i.invariant.1)
