-- `stack_check::answer_to`: a short buffer, or the answer by its figures (CheckLaws).
use Rattle.answer_encode.proofs.AnswerLaws.{sized}
use Rattle.stack_check.proofs.CheckLaws.{short_room, answered, by_rule}
use Rattle.stack_check.proofs.answer_to.Goals as goal

pub returns-then-answer-lt-LONGEST : goal.returns-then-answer-lt-LONGEST
returns-then-answer-lt-LONGEST c =
    let a = c.args in
    let named = short_room a.rule a.t a.answer.now c.if-answer-lt-LONGEST.true in
    record { answered = by_rule a.rule a.t a.answer.now c.requires.0 named; named = named }

pub write_answer-n-requires : goal.write_answer-n-requires
write_answer-n-requires c = (sized c.requires.0, c.if-answer-lt-LONGEST.false)

pub returns : goal.returns
returns c =
    let a = c.args in
    let e = c.write_answer-n.ensures in
    let named = answered a.rule a.t a.answer.now c.if-answer-lt-LONGEST.false c.figures_by.ensures e.0 e.1 in
    record { answered = by_rule a.rule a.t a.answer.now c.requires.0 named; named = named }
