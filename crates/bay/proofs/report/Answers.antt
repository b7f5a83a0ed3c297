-- `bay::report`: the refusals in their order, then the report (Named).
use mathlib.Core.Path.{◌≡◌, sym, ◌∙◌}
use Rattle.std.specs.Prelude.{Err}
use borrow.Author.Rules.{rules}
use Rattle.bay.proofs.Named.{refused, too_short, reported}
use Rattle.bay.proofs.report.Goals as goal

pub returns-in_err-test_bay : goal.returns-in_err-test_bay
returns-in_err-test_bay c =
    let a = c.args in
    let e : c.from_residual.result ≡ Err c.in_err-test_bay.field-0.0 = search rules in
    let r = refused a.bay.now a.report.now (sym c.test_bay.ensures ∙ c.in_err-test_bay.was) in
    rw e (record { reported = r.0; named = r.1 })

pub returns-then-report-lt-LONGEST : goal.returns-then-report-lt-LONGEST
returns-then-report-lt-LONGEST c =
    let a = c.args in
    let r = too_short a.bay.now a.report.now (sym c.test_bay.ensures ∙ c.in_ok-test_bay.was) c.if-report-lt-LONGEST.true in
    record { reported = r.0; named = r.1 }

pub put_report-requires : goal.put_report-requires
put_report-requires c = (sym c.test_bay.ensures ∙ c.in_ok-test_bay.was, c.if-report-lt-LONGEST.false)

pub returns : goal.returns
returns c =
    let a = c.args in
    let e = c.put_report.ensures in
    let r = reported a.bay.now a.report.now (sym c.test_bay.ensures ∙ c.in_ok-test_bay.was) c.if-report-lt-LONGEST.false e.0 e.1 in
    record { reported = r.0; named = r.1 }
