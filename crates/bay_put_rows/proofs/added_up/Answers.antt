-- `bay_put_rows::added_up`: sums, and the larger racking.
use Rattle.bay_put_rows.proofs.added_up.Goals as goal

pub returns : goal.returns
returns c = rw c.larger_of.ensures
