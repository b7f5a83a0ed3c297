-- `cases_springs::fill` meets its contract: at each turn the first i numbers are within their bounds.
use Rattle.cases_springs.specs.Inner.Within.{Within}
use Rattle.cases_springs.proofs.fill.Given as goal

abbrev pub invariant-loop-i : goal.invariant-loop-i
invariant-loop-i l = Within l.i l.least l.most l.into
