-- `bay_outlines::height_of`: after k turns the height of the first k tiers.
use mathlib.Core.Path.{sym, ap, ◌∙◌}
use native.Mathlib.Omega.{arith}
use borrow.Author.Rules.{rules}
use Rattle.sheet.specs.declared.Tier.{Tier}
use Rattle.sheet.specs.Layout.{tiers_in}
use Rattle.bay_wind.specs.Exposure.{height_of}
use Rattle.bay_wind.proofs.Sums.{sum_none, tiers_more}
use Rattle.bay_outlines.proofs.height_of.Goals as goal

pub loop-k-init : goal.loop-k-init
loop-k-init c = (sym (sum_none _), search rules)

pub loop-k-preserved : goal.loop-k-preserved
loop-k-preserved c = (
  tiers_more (λ (t : Tier). t.height) c.args.row.now c.args.n c.loop-k.k c.loop-k-test.true c.loop-k.invariant.0
      c.tier_of-t.ensures,
  omega arith,
)

pub returns : goal.returns
returns c =
    let a = c.args in
    c.loop-k.invariant.0 ∙ ap (height_of (tiers_in a.row.now a.n)) (omega arith)
