-- `springs_balance::balanced` is its definition: at each turn the levels over i are in balance (Loops).
use Rattle.springs_balance.proofs.Loops.{Sofar}
use Rattle.springs_balance.proofs.balanced.Given as goal

abbrev pub invariant-loop-j : goal.invariant-loop-j
invariant-loop-j l = let c = l.chain in Sofar c.n c.k.now c.kappa.now c.omega.now l.d l.over l.j
