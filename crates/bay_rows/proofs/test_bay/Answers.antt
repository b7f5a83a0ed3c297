-- `bay_rows::test_bay`: 16, then the rows (Readings).
use mathlib.Core.Path.{sym, ap, ◌∙◌}
use native.Mathlib.Omega.{arith}
use Rattle.arith.specs.Lists.{below}
use Rattle.bay_rows.specs.Refusals.{first_of}
use Rattle.bay_rows.proofs.Readings.{laid_badly, laid_well, count_good, ends_there}
use Rattle.bay_rows.proofs.test_bay.Goals as goal

pub returns-then-badly_laid_out : goal.returns-then-badly_laid_out
returns-then-badly_laid_out c =
    sym (laid_badly c.args.bay.now (sym c.badly_laid_out.ensures ∙ c.if-badly_laid_out.true))

pub test_rows-requires : goal.test_rows-requires
test_rows-requires c =
    let b = c.args.bay.now in
    let laid = sym c.badly_laid_out.ensures ∙ c.if-badly_laid_out.false in
    rw c.byte_at.ensures.0 ((count_good b laid).1, omega (arith, ends_there b laid))

pub returns : goal.returns
returns c =
    let b = c.args.bay.now in
    let laid = sym c.badly_laid_out.ensures ∙ c.if-badly_laid_out.false in
    c.test_rows.ensures ∙ ap (λ n. first_of b (below n)) c.byte_at.ensures.0 ∙ sym (laid_well b laid)
