-- `answer_put::put_over`: the findings of the sizes passed are put.
use mathlib.Core.Path.{refl}
use native.Mathlib.Omega.{arith}
use Rattle.answer_put.proofs.Puts.{over_none, over_more}
use Rattle.answer_put.proofs.put_over.Goals as goal

pub loop-k-init : goal.loop-k-init
loop-k-init c = (omega arith, over_none _ _ _ _ _ _ _)

pub loop-k-preserved : goal.loop-k-preserved
loop-k-preserved c =
    let l = c.loop-k in
    (omega arith, over_more _ _ _ _ _ l.k l.invariant.1 refl c.put_where-next.ensures.put.0)
