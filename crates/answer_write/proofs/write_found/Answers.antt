-- `answer_write::write_found`: the findings passed are stored.
use native.Mathlib.Omega.{arith}
use Rattle.answer_write.proofs.Stores.{words_none, words_more}
use Rattle.answer_write.proofs.write_found.Goals as goal

pub loop-i-init : goal.loop-i-init
loop-i-init c = (omega arith, words_none c.args.found.now _ _)

pub loop-i-preserved : goal.loop-i-preserved
loop-i-preserved c =
    let l = c.loop-i in
    (omega arith, words_more _ l.i l.invariant.1 (omega arith) c.write_finding-next.ensures.0)
