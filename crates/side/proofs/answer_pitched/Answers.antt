-- `side::answer_pitched`: what turns the short sheet back, or what `answer_side` says (Refusals).
use mathlib.Core.Path.{◌≡◌, sym, subst, ◌∙◌}
use lib.ListN.{length}
use Rattle.std.specs.Prelude.{Err}
use borrow.Author.Rules.{rules}
use Rattle.side_parts.proofs.ShortSheets.{pitched}
use Rattle.side.specs.Inner.Steps.{own_reading, Settled}
use Rattle.side.proofs.Refusals.{pitch_refused, pitch_taken}
use Rattle.side.proofs.answer_pitched.Goals as goal

pub returns-in_err-test_pitch : goal.returns-in_err-test_pitch
returns-in_err-test_pitch c =
    let a = c.args in
    let e : c.from_residual.result ≡ Err c.in_err-test_pitch.field-0.0 = search rules in
    subst (Settled (own_reading a.t.ntiers a.pitch.now (length a.answer.now)) a.t a.pitch.now a.answer.now a.answer.now) (sym e)
    (pitch_refused a.t a.pitch.now a.answer.now (sym c.test_pitch.ensures ∙ c.in_err-test_pitch.was))

pub answer_side-requires : goal.answer_side-requires
answer_side-requires c =
    (c.requires, pitched c.args.t.ntiers c.args.pitch.now (sym c.test_pitch.ensures ∙ c.in_ok-test_pitch.was))

pub returns : goal.returns
returns c =
    let a = c.args in
    pitch_taken a.t a.pitch.now a.answer.now (sym c.test_pitch.ensures ∙ c.in_ok-test_pitch.was) c.answer_side.ensures
