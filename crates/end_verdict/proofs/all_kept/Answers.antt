-- `end_verdict::all_kept`: none of the sizes passed exceeds the limit.
use mathlib.Core.Path.{refl}
use Rattle.end_verdict.proofs.NoneFound.{kept_none, kept_more}
use Rattle.end_verdict.proofs.all_kept.Goals as goal

pub loop-k-init : goal.loop-k-init
loop-k-init c = kept_none _ _ _

pub loop-k-preserved : goal.loop-k-preserved
loop-k-preserved c =
    let l = c.loop-k in
    kept_more _ _ _ l.k l.invariant refl
