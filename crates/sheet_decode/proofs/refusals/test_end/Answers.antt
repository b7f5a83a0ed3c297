-- `sheet_decode::refusals::test_end`: a lash count, 1 and 9, then the lashes.
use mathlib.Core.Path.{sym, ◌∙◌}
use borrow.Author.Rules.{rules}
use borrow.Author.Tests.{lt-ltb, le-ltb}
use Rattle.sheet.proofs.Rows.{row_holds, row_passed, behind_taken, behind_refused}
use Rattle.sheet_decode.proofs.refusals.test_end.Goals as goal

pub returns-in_err-test_there : goal.returns-in_err-test_there
returns-in_err-test_there c = search rules ∙ sym (behind_refused _ _ (sym c.test_there.ensures.0 ∙ c.in_err-test_there.was))

pub returns-then-count-gt8 : goal.returns-then-count-gt8
returns-then-count-gt8 c =
    sym (behind_taken _ _ (sym c.test_there.ensures.0 ∙ c.in_ok-test_there.was)
    ∙ row_holds _ _ (simp (← c.byte_at-count.ensures.0, lt-ltb _ _ c.if-count-gt8.true)))

pub returns : goal.returns
returns c =
    rw c.byte_at-count.ensures.0 at c.test_each_lash.ensures
    ∙ sym (behind_taken _ _ (sym c.test_there.ensures.0 ∙ c.in_ok-test_there.was)
    ∙ row_passed _ _ (simp (← c.byte_at-count.ensures.0, le-ltb _ _ c.if-count-gt8.false)))
