-- `springs_guess_both::slope_both` meets its contract: at each turn the levels over i have their floats, at both ends (Loops).
use mathlib.Core.Path.{◌≡◌}
use lib.ListN.{length}
use Rattle.springs.specs.Inner.Candidate.{every_fourth}
use Rattle.springs_guess.proofs.Loops.{Down}
use Rattle.springs_guess_both.proofs.slope_both.Given as goal

abbrev pub invariant-loop-j : goal.invariant-loop-j
invariant-loop-j l =
    let p = l.door in
    let q = l.closed in
    (length l.slopes ≡ 40)
    × Down p.n p.k.now p.kappa.now p.omega.now (every_fourth 0 l.slopes) (every_fourth 2 l.slopes) l.door_over l.j
    × Down p.n q.k.now q.kappa.now p.omega.now (every_fourth 1 l.slopes) (every_fourth 3 l.slopes) l.closed_over l.j
