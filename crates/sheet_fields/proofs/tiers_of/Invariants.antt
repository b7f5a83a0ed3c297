-- `sheet_fields::tiers_of`: the tiers: after k turns the array holds the first k, then blanks.
use Prim.Native.Nat.{◌≤◌}
use mathlib.Core.Path.{◌≡◌}
use Rattle.sheet.specs.Layout.{tiers_in}
use Rattle.sheet_fields.proofs.tiers_of.Given as goal

abbrev pub invariant-loop-k : goal.invariant-loop-k
invariant-loop-k l = (l.k ≤ l.n) × (l.tiers ≡ tiers_in l.s l.k)
