-- `sheet_decode::refusals::test_each_lash`: the lashes of an end in order: the rows of those left give what the rows of all give.
use Prim.Native.Nat.{◌≤◌, ◌-◌}
use mathlib.Core.List.{flat_map}
use mathlib.Core.Path.{◌≡◌}
use Rattle.arith.specs.Lists.{from, below}
use Rattle.sheet.specs.Refusals.{first, lash_rows}
use Rattle.sheet_limits.specs.Inner.Ranks.{least_rank}
use Rattle.sheet_decode.proofs.refusals.test_each_lash.Given as goal

abbrev pub invariant-loop-k : goal.invariant-loop-k
invariant-loop-k l =
    (l.k ≤ l.count)
    × (l.least ≡ least_rank l.s l.at l.k)
    × (first (flat_map (lash_rows l.n l.s l.at) (from l.k (l.count - l.k))) ≡ first (flat_map (lash_rows l.n l.s l.at) (below l.count)))
