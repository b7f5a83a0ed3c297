-- `answer_put::put_pulls`: the findings of the lashes passed are put.
use native.Mathlib.Omega.{arith}
use Rattle.answer_put.proofs.Puts.{over_none, over_more}
use Rattle.answer_put.proofs.put_pulls.Goals as goal

pub loop-j-init : goal.loop-j-init
loop-j-init c = (omega arith, over_none _ _ _ _ _ _ _)

pub loop-j-preserved : goal.loop-j-preserved
loop-j-preserved c =
    let l = c.loop-j in
    let v = rw c.safe_load-limit.ensures at c.put_where-next.ensures.put.0 in
    (omega arith, over_more _ _ _ _ _ l.j l.invariant.1 (omega arith) v)
