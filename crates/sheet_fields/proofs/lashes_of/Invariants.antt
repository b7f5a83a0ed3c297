-- `sheet_fields::lashes_of`: the lashes of an end: after k turns the array holds the first k, then blanks.
use Prim.Native.Nat.{◌≤◌}
use mathlib.Core.Path.{◌≡◌}
use Rattle.sheet.specs.Layout.{lashes_in}
use Rattle.sheet_fields.proofs.lashes_of.Given as goal

abbrev pub invariant-loop-k : goal.invariant-loop-k
invariant-loop-k l = (l.k ≤ l.n) × (l.lashes ≡ lashes_in l.s l.at l.k)
