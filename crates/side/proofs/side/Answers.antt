-- `side::side`: the sheet's own refusals, then what `answer_pitched` says of a taken one (Refusals).
use mathlib.Core.Path.{◌≡◌, sym, subst, ◌∙◌}
use Rattle.std.specs.Prelude.{Err}
use borrow.Author.Rules.{rules}
use Rattle.sheet.proofs.TakenSheets.{decoded_fits}
use Rattle.side.specs.Sides.{Sided}
use Rattle.side.proofs.Refusals.{sheet_refused, sheet_taken}
use Rattle.side.proofs.side.Goals as goal

pub returns-in_err-t : goal.returns-in_err-t
returns-in_err-t c =
    let a = c.args in
    let e : c.from_residual.result ≡ Err c.in_err-t.field-0.0 = search rules in
    subst (Sided a.sheet.now a.pitch.now a.answer.now a.answer.now) (sym e)
    (sheet_refused a.sheet.now a.pitch.now a.answer.now (sym c.decode.ensures ∙ c.in_err-t.was))

pub answer_pitched-requires : goal.answer_pitched-requires
answer_pitched-requires c = decoded_fits c.args.sheet.now (sym c.decode.ensures ∙ c.in_ok-t.was)

pub returns : goal.returns
returns c =
    let a = c.args in
    sheet_taken a.sheet.now a.pitch.now a.answer.now (sym c.decode.ensures ∙ c.in_ok-t.was) c.answer_pitched.ensures
