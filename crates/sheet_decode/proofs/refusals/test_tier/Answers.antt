-- `sheet_decode::refusals::test_tier`: a tier: 1, 7, 8. Each return follows from the rows that passed before it.
use mathlib.Core.Path.{◌≡◌, sym, ◌∙◌}
use lib.ListN.{drop}
use borrow.Author.Rules.{rules}
use borrow.Author.Tests.{eq-eqb, ne_eqb}
use Rattle.sheet.specs.Refusals.{first, tier_rows}
use Rattle.sheet.proofs.Items.{tier_size}
use Rattle.sheet.proofs.Rows.{no_rows, row_holds, row_passed, behind_taken, behind_refused}
use Rattle.sheet_decode.proofs.refusals.test_tier.Goals.{Else-not-tier_fits}
use Rattle.sheet_decode.proofs.refusals.test_tier.Goals as goal

fits : (c : Else-not-tier_fits) → let rows = tier_rows c.args.s.now c.args.k in first rows ≡ first (drop 2 rows)
fits c =
    behind_taken _ _ (sym c.test_there.ensures.0 ∙ c.in_ok-test_there.was)
    ∙ row_passed _ _ (simp (← c.tier_of-t.ensures, ← c.tier_fits.ensures, c.if-not-tier_fits.false))

pub returns-in_err-test_there : goal.returns-in_err-test_there
returns-in_err-test_there c = search rules ∙ sym (behind_refused _ _ (sym c.test_there.ensures.0 ∙ c.in_err-test_there.was))

pub returns-then-not-tier_fits : goal.returns-then-not-tier_fits
returns-then-not-tier_fits c =
    sym (
    behind_taken _ _ (sym c.test_there.ensures.0 ∙ c.in_ok-test_there.was)
    ∙ row_holds _ _ (simp (← c.tier_of-t.ensures, ← c.tier_fits.ensures, c.if-not-tier_fits.true)))

pub returns-then-t-field1 : goal.returns-then-t-field1
returns-then-t-field1 c =
    let size = tier_size c.args.s.now 9 in
    sym (
    fits (goal.at.returns-then-t-field1 c).Else-not-tier_fits
    ∙ row_holds _ _ (simp (size, ← c.tier_of-t.ensures, ← c.field1.ensures, ne_eqb _ _ c.if-t-field1.true)))

pub returns : goal.returns
returns c =
    let size = tier_size c.args.s.now 9 in
    sym (
    fits (goal.at.returns c).Else-not-tier_fits
    ∙ row_passed _ _ (simp (size, ← c.tier_of-t.ensures, ← c.field1.ensures, eq-eqb _ _ c.if-t-field1.false))
    ∙ no_rows)
