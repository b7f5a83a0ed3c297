-- `springs_eliminate::hand_down` meets its contract: at each turn the levels from i up have what is handed down to them (Loops).
use Rattle.springs_eliminate.proofs.Loops.{Down}
use Rattle.springs_eliminate.proofs.hand_down.Given as goal

abbrev pub invariant-loop-j : goal.invariant-loop-j
invariant-loop-j l = let c = l.chain in Down c.n c.k.now c.kappa.now c.omega.now l.x l.y l.j
