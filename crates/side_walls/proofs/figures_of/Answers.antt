-- `side_walls::figures_of`: the rackings in units by the share of the rule number, rounded up (Loops).
use Rattle.side_walls.proofs.Loops.{figured}
use Rattle.side_walls.proofs.figures_of.Goals as goal

pub returns : goal.returns
returns c = figured c.push_all.ensures c.round_up.ensures
