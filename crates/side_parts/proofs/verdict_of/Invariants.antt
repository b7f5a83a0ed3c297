-- `side_parts::verdict_of`: the rackings passed do not exceed the limit (Tests).
use Prim.Native.Nat.{ℕ}
use mathlib.Core.Bool.{Bool}
use mathlib.Core.List.{List}
use mathlib.Core.Path.{◌≡◌}
use lib.ListN.{get_or}
use Rattle.arith.specs.Lists.{below}
use Rattle.sheet.specs.Layout.{◌above◌}
use Rattle.side_walls.specs.SideWalls.{side_limit, any_of}
use Rattle.side_parts.proofs.Tests.{any_from}
use Rattle.side_parts.proofs.verdict_of.Given as goal

abbrev pub over : List ℕ → ℕ → Bool
over racking i = get_or racking i 0 above side_limit

abbrev pub invariant-loop-i : goal.invariant-loop-i
invariant-loop-i l = any_from (over l.racking) l.n l.i ≡ any_of (over l.racking) (below l.n)
