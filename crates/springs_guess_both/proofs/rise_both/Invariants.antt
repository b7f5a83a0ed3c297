-- `springs_guess_both::rise_both` meets its contract: at each turn levels 0 to i have their shifts, at both ends (Loops).
use Rattle.springs.specs.Inner.Candidate.{every_fourth}
use Rattle.springs_guess.proofs.Loops.{Up}
use Rattle.springs_guess_both.proofs.rise_both.Given as goal

abbrev pub invariant-loop-i : goal.invariant-loop-i
invariant-loop-i l =
    Up l.n (every_fourth 0 l.slopes) (every_fourth 2 l.slopes) l.d l.x l.i
    × Up l.n (every_fourth 1 l.slopes) (every_fourth 3 l.slopes) l.e l.y l.i
