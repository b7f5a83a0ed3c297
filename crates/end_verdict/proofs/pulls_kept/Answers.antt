-- `end_verdict::pulls_kept`: none of the tensions passed exceeds its lash's safe load.
use Rattle.answer_put.specs.Inner.Puts.{lash_limit}
use lib.ListN.{get_or}
use Rattle.end_verdict.proofs.NoneFound.{kept_none, kept_more, zero_first}
use Rattle.end_verdict.proofs.pulls_kept.Goals as goal

pub loop-j-init : goal.loop-j-init
loop-j-init c = kept_none _ _ _

pub loop-j-preserved : goal.loop-j-preserved
loop-j-preserved c =
    let l = c.loop-j in
    let a = c.args in
    let xs = a.xs.now in
    let lashes = a.lashes in
    let same = zero_first l.j (λ k. get_or xs k 0) (lash_limit lashes) in
    rw c.safe_load-limit.ensures (kept_more (λ k. get_or xs k 0) _ 0 l.j l.invariant same)
