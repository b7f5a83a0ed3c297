-- `bay_answer::mass_of`: after k turns the mass of the first k tiers.
use Prim.Native.Nat.{◌*◌, ◌≤◌}
use mathlib.Core.Path.{◌≡◌}
use Rattle.sheet.specs.Layout.{tiers_in}
use Rattle.sheet.specs.Fits.{tier_at}
use Rattle.bay_wind.specs.Sums.{sum_of}
use Rattle.bay_answer.proofs.mass_of.Given as goal

abbrev pub invariant-loop-k : goal.invariant-loop-k
invariant-loop-k l = (l.mass ≡ sum_of (λ j. (tier_at (tiers_in l.row l.n) j).mass) l.k) × (l.mass ≤ 65535 * l.k)
