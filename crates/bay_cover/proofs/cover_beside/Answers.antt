-- `bay_cover::cover_beside`: by the nearest row, where there is one.
use Rattle.bay_cover.proofs.cover_beside.Goals as goal

pub returns-in-Some : goal.returns-in-Some
returns-in-Some c = rw c.in-Some.is c.cover_above.ensures
