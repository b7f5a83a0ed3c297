-- `answer_findings::put_findings`: the two ends' findings are put one behind the other.
use mathlib.Core.Path.{ap, ◌∙◌}
use native.Mathlib.Omega.{arith}
use Rattle.limits.specs.Inner.LowerOf.{lower_of}
use Rattle.statics.specs.Inner.InArrays.{both_in}
use Rattle.answer_findings.proofs.FindingLaws.{put_both}
use Rattle.answer_findings.proofs.put_findings.Goals as goal

pub returns : goal.returns
returns c =
    let x = c.args in
    let lower = c.lower_of-pull.ensures ∙ ap lower_of c.safe_load.ensures in
    put_both x.t (both_in x.figures.now) c.requires.0 c.lower_of-pull.result lower c.put_end-p.ensures.0 c.put_end-q.ensures.0
    (omega arith)
