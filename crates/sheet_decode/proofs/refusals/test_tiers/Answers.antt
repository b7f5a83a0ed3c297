-- `sheet_decode::refusals::test_tiers`: the tier count, 1 and 6, then the tiers.
use mathlib.Core.Path.{sym, ◌∙◌}
use borrow.Author.Rules.{rules}
use Rattle.sheet.proofs.Items.{count_fits}
use Rattle.sheet.proofs.Rows.{row_holds, row_passed, behind_taken, behind_refused}
use Rattle.sheet_decode.proofs.refusals.test_tiers.Goals as goal

pub returns-in_err-test_there : goal.returns-in_err-test_there
returns-in_err-test_there c = search rules ∙ sym (behind_refused _ _ (sym c.test_there.ensures.0 ∙ c.in_err-test_there.was))

pub returns-then-n : goal.returns-then-n
returns-then-n c =
    sym (behind_taken _ _ (sym c.test_there.ensures.0 ∙ c.in_ok-test_there.was) ∙ row_holds _ _ (simp (← c.byte_at-n.ensures.0, c.if-n.true)))

pub test_each_tier-requires : goal.test_each_tier-requires
test_each_tier-requires c = (count_fits c.byte_at-n.result c.if-n.false).1

pub returns : goal.returns
returns c =
    rw c.byte_at-n.ensures.0 at c.test_each_tier.ensures
    ∙ sym (behind_taken _ _ (sym c.test_there.ensures.0 ∙ c.in_ok-test_there.was)
    ∙ row_passed _ _ (simp (← c.byte_at-n.ensures.0, c.if-n.false)))
