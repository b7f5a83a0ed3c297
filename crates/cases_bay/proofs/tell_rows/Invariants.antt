-- `cases_bay::tell_rows` ends: each row is its length, or more, of what is left.
use lib.ListN.{length}
use Rattle.cases_bay.proofs.tell_rows.Given as goal

abbrev pub decreases-loop-head : goal.decreases-loop-head
decreases-loop-head g l = length l.rest
