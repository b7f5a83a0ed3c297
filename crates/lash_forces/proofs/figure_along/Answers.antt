-- `lash_forces::figure_along`: what the product may lack is added, and the sum rounded up.
use Rattle.lash_forces.proofs.figure_along.Goals as goal

pub returns : goal.returns
returns c = rw (← c.along_side.ensures.0) c.ceil_div.ensures.0
