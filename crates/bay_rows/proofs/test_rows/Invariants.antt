-- `bay_rows::test_rows`: the rows in order: those left give what all give.
use Prim.Native.Nat.{◌+◌, ◌*◌, ◌-◌, ◌≤◌}
use mathlib.Core.Path.{◌≡◌}
use Rattle.arith.specs.Lists.{from, below}
use Rattle.bay_rows.specs.Bay.{row_place}
use Rattle.bay_rows.specs.Refusals.{first_of}
use Rattle.bay_rows.proofs.test_rows.Given as goal

abbrev pub invariant-loop-k : goal.invariant-loop-k
invariant-loop-k l =
    (l.at ≡ row_place l.bay l.k) × (l.at ≤ 1 + 65537 * l.k) × (first_of l.bay (from l.k (l.n - l.k)) ≡ first_of l.bay (below l.n))
