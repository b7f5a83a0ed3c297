-- `cases_springs::fill` meets its contract: at each turn the first i numbers are within their bounds.
use native.Mathlib.Omega.{arith}
use Rattle.cases_springs.proofs.Laws.{one_more}
use Rattle.cases_springs.proofs.fill.Goals as goal

pub loop-i-preserved : goal.loop-i-preserved
loop-i-preserved c =
    one_more c.loop-i.i c.args.least c.args.most c.loop-i.into c.number-x.result (omega arith) (omega arith) (omega arith) c.loop-i.invariant
