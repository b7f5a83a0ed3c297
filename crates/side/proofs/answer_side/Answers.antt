-- `side::answer_side`: a short buffer, or the verdict and the figures of each tier, written one behind another (Bytes, Refusals).
use native.Mathlib.Omega.{arith}
use Rattle.side.proofs.Bytes.{whole}
use Rattle.side.proofs.Refusals.{short, answered}
use Rattle.side.proofs.answer_side.Goals as goal

pub returns-then-answer-lt-LONGEST : goal.returns-then-answer-lt-LONGEST
returns-then-answer-lt-LONGEST c =
    let a = c.args in
    short a.t a.pitch.now a.answer.now c.if-answer-lt-LONGEST.true

pub returns : goal.returns
returns c =
    let a = c.args in
    let stored =
    whole c.figures_of-f.ensures c.write1.ensures c.verdict_of.ensures.0 c.write_tiers.ensures.0 in
    answered a.t a.pitch.now a.answer.now c.if-answer-lt-LONGEST.false stored (omega arith)
