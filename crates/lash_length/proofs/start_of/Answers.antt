-- `lash_length::start_of`: both steps are Newton's.
use Rattle.lash_length.proofs.start_of.Goals as goal

pub returns : goal.returns
returns c = record { value = rw (← c.step.ensures.0) c.step-2.ensures.0; upper_bound = c.step-2.ensures.2 }
