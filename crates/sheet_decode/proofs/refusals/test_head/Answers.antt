-- `sheet_decode::refusals::test_head`: the head: 1, 3, 4, 5. Each return follows from the rows that passed before it.
use mathlib.Core.Path.{◌≡◌, sym, ◌∙◌}
use lib.ListN.{drop}
use borrow.Author.Rules.{rules}
use borrow.Author.Tests.{lt-ltb, le-ltb}
use Rattle.sheet.specs.Refusals.{first, head_rows}
use Rattle.sheet.proofs.Rows.{no_rows, row_holds, row_passed, behind_taken, behind_refused}
use Rattle.sheet_decode.proofs.refusals.test_head.Goals.{Else-h, After-breaking_fits}
use Rattle.sheet_decode.proofs.refusals.test_head.Goals as goal

-- the rows of the head, of which the first two, and the first three, have passed; `head_of` gave the head in h
ruled : (c : Else-h) → let rows = head_rows c.args.s.now in first rows ≡ first (drop 2 rows)
ruled c = behind_taken _ _ (sym c.test_there.ensures.0 ∙ c.in_ok-test_there.was) ∙ row_passed _ _ (simp (← c.head_of-h.ensures, c.if-h.false))

routed : (c : After-breaking_fits) → let rows = head_rows c.args.s.now in first rows ≡ first (drop 3 rows)
routed c =
    behind_taken _ _ (sym c.test_there.ensures.0 ∙ c.in_ok-test_there.was)
    ∙ row_passed _ _ (simp (← c.head_of-h.ensures, c.if-h.false))
    ∙ row_passed _ _ (simp (← c.head_of-h.ensures) (le-ltb _ _ c.if-h-gt12.false))

pub returns-in_err-test_there : goal.returns-in_err-test_there
returns-in_err-test_there c = search rules ∙ sym (behind_refused _ _ (sym c.test_there.ensures.0 ∙ c.in_err-test_there.was))

pub returns-then-h : goal.returns-then-h
returns-then-h c =
    sym (behind_taken _ _ (sym c.test_there.ensures.0 ∙ c.in_ok-test_there.was) ∙ row_holds _ _ (simp (← c.head_of-h.ensures, c.if-h.true)))

pub returns-then-h-gt12 : goal.returns-then-h-gt12
returns-then-h-gt12 c =
    sym (ruled (goal.at.returns-then-h-gt12 c).Else-h ∙ row_holds _ _ (simp (← c.head_of-h.ensures) (lt-ltb _ _ c.if-h-gt12.true)))

pub returns-then-h-breaking_fits : goal.returns-then-h-breaking_fits
returns-then-h-breaking_fits c =
    sym (
    routed (goal.at.returns-then-h-breaking_fits c).After-breaking_fits
    ∙ row_holds _ _ (simp (← c.head_of-h.ensures, ← c.breaking_fits.ensures, c.if-h-breaking_fits.true)))

pub returns : goal.returns
returns c =
    sym (
    routed (goal.at.returns c).After-breaking_fits
    ∙ row_passed _ _ (simp (← c.head_of-h.ensures, ← c.breaking_fits.ensures, c.if-h-breaking_fits.false))
    ∙ no_rows)
