-- `sheet_decode::refusals::test_each_tier`: the tiers in order: the rows of those left give what the rows of all give.
use Prim.Native.Nat.{◌≤◌, ◌-◌}
use mathlib.Core.List.{flat_map}
use mathlib.Core.Path.{◌≡◌}
use Rattle.arith.specs.Lists.{from, below}
use Rattle.sheet.specs.Refusals.{first, tier_rows}
use Rattle.sheet_decode.proofs.refusals.test_each_tier.Given as goal

abbrev pub invariant-loop-k : goal.invariant-loop-k
invariant-loop-k l = (l.k ≤ l.n) × (first (flat_map (tier_rows l.s) (from l.k (l.n - l.k))) ≡ first (flat_map (tier_rows l.s) (below l.n)))
