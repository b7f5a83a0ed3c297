-- `cases::run_all` ends: each case is its head of seven bytes, or more, of what is left.
use lib.ListN.{length}
use Rattle.cases.proofs.run_all.Given as goal

abbrev pub decreases-loop-rest : goal.decreases-loop-rest
decreases-loop-rest g l = length l.rest
