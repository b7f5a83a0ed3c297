-- `preview::preview`: the refusals of the sheet, then the answer with the new mass (Previewing).
use Rattle.std.specs.Prelude.{Ok, Err}
use borrow.Author.Rules.{rules}
use mathlib.Core.Path.{◌≡◌, sym, ◌∙◌}
use Rattle.preview.proofs.Previewing.{refused, answered}
use Rattle.preview.proofs.preview.Goals as goal

pub returns-in_err-test_sheet : goal.returns-in_err-test_sheet
returns-in_err-test_sheet c =
    let a = c.args in
    let e : c.from_residual.result ≡ Err c.in_err-test_sheet.field-0.0 = search rules in
    let r = refused a.sheet.now a.tier a.mass a.answer.now (sym c.test_sheet.ensures ∙ c.in_err-test_sheet.was) in
    rw e (record { previewed = r.0; named = r.1 })

pub answer_moved-requires : goal.answer_moved-requires
answer_moved-requires c = sym c.test_sheet.ensures ∙ c.in_ok-test_sheet.was

pub returns : goal.returns
returns c =
    let a = c.args in
    let r =
    answered a.sheet.now a.tier a.mass a.answer.now (sym c.test_sheet.ensures ∙ c.in_ok-test_sheet.was)
    c.ranges.mass.fits c.answer_moved.ensures
    in
    record { previewed = r.0; named = r.1 }
