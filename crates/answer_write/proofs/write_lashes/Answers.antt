-- `answer_write::write_lashes`: behind the count, the lashes passed are stored.
use native.Mathlib.Omega.{arith}
use Rattle.answer_write.proofs.Stores.{entries_none, entries_more}
use Rattle.answer_write.proofs.write_lashes.Goals as goal

pub loop-j-init : goal.loop-j-init
loop-j-init c = (omega arith, entries_none _ _ _)

pub loop-j-preserved : goal.loop-j-preserved
loop-j-preserved c =
    let l = c.loop-j in
    (omega arith, entries_more _ l.j l.invariant.1 c.write_lash-next.ensures.0)
