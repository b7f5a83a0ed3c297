-- `sheet_decode::refusals::test_each_tier`: the tiers in order: the rows of those left give what the rows of all give.
use mathlib.Core.Path.{sym, ◌∙◌}
use native.Mathlib.Nat.{sub-zero}
use borrow.Author.Rules.{rules}
use Rattle.sheet.specs.Refusals.{tier_rows}
use Rattle.sheet.proofs.Rows.{entry_taken, entry_refused, no_entry_left}
use Rattle.sheet_decode.proofs.refusals.test_each_tier.Goals as goal

pub loop-k-init : goal.loop-k-init
loop-k-init c = (search rules, rw sub-zero)

pub returns-in_err-test_tier : goal.returns-in_err-test_tier
returns-in_err-test_tier c =
    let a = c.args in
    search rules
    ∙ sym (entry_refused (tier_rows a.s.now) c.loop-k.k _ c.loop-k-test.true (sym c.test_tier.ensures ∙ c.in_err-test_tier.was))
    ∙ c.loop-k.invariant.1

pub loop-k-preserved : goal.loop-k-preserved
loop-k-preserved c =
    let a = c.args in (
      search rules,
      sym
          (entry_taken (tier_rows a.s.now) c.loop-k.k _ c.loop-k-test.true
          (sym c.test_tier.ensures ∙ c.in_ok-test_tier.was))
          ∙ c.loop-k.invariant.1,
    )

pub returns : goal.returns
returns c =
    let a = c.args in
    sym (no_entry_left (tier_rows a.s.now) c.loop-k.k _ c.loop-k-test.false) ∙ c.loop-k.invariant.1
