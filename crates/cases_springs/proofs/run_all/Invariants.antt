-- `cases_springs::run_all` ends: each chain is a byte or more of what is left.
use lib.ListN.{length}
use Rattle.cases_springs.proofs.run_all.Given as goal

abbrev pub decreases-loop-rest : goal.decreases-loop-rest
decreases-loop-rest g l = length l.rest
