-- `springs_guess::rise` meets its contract: at each turn levels 0 to i have their shifts (Loops).
use Rattle.springs.specs.Inner.Candidate.{by_level}
use Rattle.springs_guess.proofs.Loops.{Up}
use Rattle.springs_guess.proofs.rise.Given as goal

abbrev pub invariant-loop-i : goal.invariant-loop-i
invariant-loop-i l = Up l.n (by_level l.a) (by_level l.w) l.d l.x l.i
