-- `forecast_factor::factor_of` halves what is left until one number is. The invariant: the factor lies between, and each comparison
-- halved.
use lib.Dec.{lit≤}
use native.Mathlib.Omega.{arith}
use Rattle.forecast_factor.proofs.Halving.{begun, below_nine, found}
use Rattle.forecast_factor.proofs.factor_of.Goals as goal

pub loop-at-init : goal.loop-at-init
loop-at-init c = (begun _ _, record { few = lit≤ tt }, lit≤ tt)

pub halve-at-requires : goal.halve-at-requires
halve-at-requires c =
    let i = c.loop-at.invariant in record {
      h_bound = (omega arith, omega arith, omega arith, below_nine (omega arith) i.0 i.1);
      between = (i.0, i.1);
    }

pub loop-at-preserved : goal.loop-at-preserved
loop-at-preserved c =
    let e = c.halve-at.ensures in
    let i = c.loop-at.invariant in
    (e.between_2.0, e.between_2.1, omega (arith, e.least_bound.1, below_nine (omega arith) i.0 i.1))

pub returns : goal.returns
returns c =
    let i = c.loop-at.invariant in record {
      factor_value = (found c.requires (omega arith) i.0, i.2);
      le_factor = (i.0.low, omega (arith, i.0.ordered, i.0.high));
    }
