-- `sheet_decode::refusals::test_sheet`: the head, the tiers, then the ends.
use borrow.Author.Rules.{rules}
use mathlib.Core.Path.{sym, ◌∙◌}
use Rattle.sheet.proofs.Rows.{head_refused, tiers_refused, tiers_taken}
use Rattle.sheet_decode.proofs.refusals.test_sheet.Goals as goal

pub returns-in_err-test_head : goal.returns-in_err-test_head
returns-in_err-test_head c =
    search rules ∙ sym (head_refused c.args.s.now (sym c.test_head.ensures ∙ c.in_err-test_head.was))

pub returns-in_err-test_tiers : goal.returns-in_err-test_tiers
returns-in_err-test_tiers c =
    let head = sym c.test_head.ensures ∙ c.in_ok-test_head.was in
    let tiers = sym c.test_tiers.ensures ∙ c.in_err-test_tiers.was in
    search rules ∙ sym (tiers_refused c.args.s.now head tiers)

pub returns : goal.returns
returns c =
    let head = sym c.test_head.ensures ∙ c.in_ok-test_head.was in
    let tiers = sym c.test_tiers.ensures ∙ c.in_ok-test_tiers.was in
    c.test_ends.ensures ∙ sym (tiers_taken c.args.s.now head tiers)
