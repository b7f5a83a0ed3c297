-- `sheet_decode::refusals::test_there`: 1 alone.
use mathlib.Core.Path.{sym, ◌∙◌}
use borrow.Author.Tests.{lt-ltb, le-ltb}
use Rattle.sheet.proofs.Results.{err_not_ok}
use Rattle.sheet.proofs.Rows.{no_rows, row_holds, row_passed}
use Rattle.sheet_decode.proofs.refusals.test_there.Goals as goal

pub returns-then-s-end : goal.returns-then-s-end
returns-then-s-end c = (sym (row_holds _ _ (lt-ltb _ _ c.if-s-end.true)), λ e. err_not_ok e)

pub returns : goal.returns
returns c = (sym (row_passed _ _ (le-ltb _ _ c.if-s-end.false) ∙ no_rows), λ _. c.if-s-end.false)
