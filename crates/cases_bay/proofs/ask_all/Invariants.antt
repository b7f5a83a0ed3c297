-- `cases_bay::ask_all` ends: each question is its head of twelve bytes, or more, of what is left.
use lib.ListN.{length}
use Rattle.cases_bay.proofs.ask_all.Given as goal

abbrev pub decreases-loop-rest : goal.decreases-loop-rest
decreases-loop-rest g l = length l.rest
