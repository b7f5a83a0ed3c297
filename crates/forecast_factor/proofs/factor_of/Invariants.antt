-- `forecast_factor::factor_of` halves what is left until one number is. The invariant: the factor lies between, and each comparison
-- halved.
use Prim.Native.Nat.{◌-◌, ◌≤◌}
use Rattle.forecast_factor.specs.Inner.Search.{Between, Halved}
use Rattle.forecast_factor.proofs.factor_of.Given as goal

abbrev pub invariant-loop-at : goal.invariant-loop-at
invariant-loop-at l =
    Between l.wave l.breadth l.at.least l.at.most × Halved l.at.least l.at.most l.at.compared × (l.at.compared ≤ 9)

abbrev pub decreases-loop-at : goal.decreases-loop-at
decreases-loop-at l = l.at.most - l.at.least
