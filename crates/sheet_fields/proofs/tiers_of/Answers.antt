-- `sheet_fields::tiers_of`: the tiers: after k turns the array holds the first k, then blanks.
use mathlib.Core.Path.{◌∙◌, ap}
use native.Mathlib.Omega.{arith}
use borrow.Author.Rules.{rules}
use Rattle.sheet.specs.Layout.{tier_in, tiers_in, blank_tier}
use Rattle.arith.specs.Lists.{from}
use Rattle.arith.proofs.Arrays.{one_more}
use Rattle.sheet_fields.proofs.tiers_of.Goals as goal

pub loop-k-init : goal.loop-k-init
unfolding from
loop-k-init c = (search rules, rw c.blank_tier-tiers.ensures)

pub loop-k-preserved : goal.loop-k-preserved
loop-k-preserved c =
    (search rules, rw (c.loop-k.invariant.1, c.tier_of.ensures) (one_more (tier_in _) blank_tier 10 c.loop-k.k (omega arith)))

pub returns : goal.returns
returns c = c.loop-k.invariant.1 ∙ ap (tiers_in _) (omega arith)
