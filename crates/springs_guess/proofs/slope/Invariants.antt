-- `springs_guess::slope` meets its contract: at each turn the levels over i have their floats (Loops).
use mathlib.Core.Path.{◌≡◌}
use lib.ListN.{length}
use Rattle.springs.specs.Inner.Candidate.{by_level}
use Rattle.springs_guess.proofs.Loops.{Down}
use Rattle.springs_guess.proofs.slope.Given as goal

abbrev pub invariant-loop-j : goal.invariant-loop-j
invariant-loop-j l =
    let c = l.chain in
    (length l.a ≡ 11) × (length l.w ≡ 11) × Down c.n c.k.now c.kappa.now c.omega.now (by_level l.a) (by_level l.w) l.over l.j
