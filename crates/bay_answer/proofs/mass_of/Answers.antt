-- `bay_answer::mass_of`: after k turns the mass of the first k tiers.
use mathlib.Core.Path.{sym}
use native.Mathlib.Omega.{arith}
use borrow.Author.Rules.{rules}
use Rattle.sheet.specs.declared.Tier.{Tier}
use Rattle.bay_wind.proofs.Sums.{sum_none, tiers_more}
use Rattle.bay_answer.proofs.mass_of.Goals as goal

pub loop-k-init : goal.loop-k-init
loop-k-init c = (sym (sum_none _), search rules)

pub loop-k-preserved : goal.loop-k-preserved
loop-k-preserved c = (
  tiers_more (λ (t : Tier). t.mass) c.args.row.now c.args.n c.loop-k.k (omega arith) c.loop-k.invariant.0
      c.tier_of-tier.ensures,
  omega (arith, c.loop-k.invariant.1),
)
