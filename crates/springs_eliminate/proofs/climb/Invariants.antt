-- `springs_eliminate::climb` meets its contract: at each turn levels 0 to i have their shifts (Loops).
use Rattle.springs_eliminate.proofs.Loops.{Up}
use Rattle.springs_eliminate.proofs.climb.Given as goal

abbrev pub invariant-loop-i : goal.invariant-loop-i
invariant-loop-i l = let c = l.chain in Up c.n c.k.now c.kappa.now c.omega.now l.d l.i
