-- `springs_guess::step` is `step_down`: the same operations in the same order.
use Rattle.springs.specs.Inner.Candidate.{step_down}
use Rattle.springs_guess.proofs.step.Goals as goal

pub returns : goal.returns
unfolding step_down
returns c = cc
