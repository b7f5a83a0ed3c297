-- `cases_arrangements::ask_all` ends: each question is its head of six bytes, or more, of what is left.
use lib.ListN.{length}
use Rattle.cases_arrangements.proofs.ask_all.Given as goal

abbrev pub decreases-loop-rest : goal.decreases-loop-rest
decreases-loop-rest g l = length l.rest
