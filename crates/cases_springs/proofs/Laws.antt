-- Numbers within bounds, one after another.
use mathlib.Core.List.{List}
use Prim.Native.Nat.{ℕ, ◌+◌, ◌≤◌, ◌<◌}
use native.Mathlib.Omega.{arith}
use lib.ListN.{length, set}
use Rattle.std.proofs.lemmas.Grind.{common_steps}
use Rattle.cases_springs.specs.Inner.Within.{Within}

pub one_more :
    (i least most : ℕ) (l : List ℕ) (x : ℕ) →
    i < length l →
    least ≤ x →
    x ≤ most →
    Within i least most l →
    Within (i + 1) least most (set l i x)
one_more i least most l x h a b w = record { each = λ j q. grind (arith, common_steps, w.each j) }
