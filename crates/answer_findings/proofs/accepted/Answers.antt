-- `answer_findings::accepted`, by the place behind the findings.
use Rattle.answer_findings.proofs.FindingLaws.{none_accepted}
use Rattle.answer_findings.proofs.accepted.Goals as goal

pub returns : goal.returns
returns c = none_accepted c.put_findings-count.ensures
