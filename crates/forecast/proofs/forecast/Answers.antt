-- `forecast::forecast`: the sheet's own refusals, then what `answer_sheet` says of a taken one (Refusals).
use Rattle.std.specs.Prelude.{Ok, Err}
use borrow.Author.Rules.{rules}
use mathlib.Core.Path.{◌≡◌, sym, ◌∙◌}
use Rattle.forecast.proofs.Refusals.{refused, taken}
use Rattle.forecast.proofs.forecast.Goals as goal

pub returns-in_err-test_sheet : goal.returns-in_err-test_sheet
returns-in_err-test_sheet c =
    let a = c.args in
    let e : c.from_residual.result ≡ Err c.in_err-test_sheet.field-0.0 = search rules in
    let r = refused a.sheet.now a.wave a.breadth a.hours a.answer.now (sym c.test_sheet.ensures ∙ c.in_err-test_sheet.was) in
    rw e (record { answered = r.0; named = r.1 })

pub answer_sheet-requires : goal.answer_sheet-requires
answer_sheet-requires c = sym c.test_sheet.ensures ∙ c.in_ok-test_sheet.was

pub returns : goal.returns
returns c =
    let a = c.args in
    let r =
    taken a.sheet.now a.wave a.breadth a.hours a.answer.now (sym c.test_sheet.ensures ∙ c.in_ok-test_sheet.was)
    c.answer_sheet.ensures
    in
    record { answered = r.0; named = r.1 }
