-- `side_parts::write_tiers`: behind the count, racking and shift of the tiers passed are stored.
use Prim.Native.Nat.{◌+◌, ◌*◌}
use mathlib.Core.List.{◌++◌, flat_map}
use mathlib.Core.Path.{◌≡◌}
use lib.ListN.{get_or}
use Rattle.arith.specs.Bytes.{bytes4}
use Rattle.arith.specs.Lists.{below}
use Rattle.answer_write.specs.Inner.Encoding.{Wrote}
use Rattle.side_parts.proofs.write_tiers.Given as goal

abbrev pub invariant-loop-i : goal.invariant-loop-i
invariant-loop-i l =
    (l.next ≡ l.initial.next + 8 * l.i)
    × Wrote l.initial.answer l.initial.next (flat_map (λ k. bytes4 (get_or l.racking k 0) ++ bytes4 (get_or l.shift k 0)) (below l.i)) l.answer l.next
