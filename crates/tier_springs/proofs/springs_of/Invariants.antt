-- `tier_springs::springs_of`: from the lowest tier up, each tier's spring at both ends (SpringLaws).
use lib.ListN.{take}
use Rattle.tier_springs.proofs.SpringLaws.{Springs}
use Rattle.tier_springs.proofs.springs_of.Given as goal

abbrev pub invariant-loop-i : goal.invariant-loop-i
invariant-loop-i l = Springs 3730 15690 (take l.n l.tiers) l.i l.springs.door × Springs 15690 3730 (take l.n l.tiers) l.i l.springs.closed
