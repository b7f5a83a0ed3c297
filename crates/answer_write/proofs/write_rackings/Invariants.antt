-- `answer_write::write_rackings`: behind the count, the entries passed are stored.
use Prim.Native.Nat.{◌+◌, ◌*◌}
use mathlib.Core.Path.{◌≡◌}
use mathlib.Core.List.{flat_map}
use lib.ListN.{get_or}
use lib.IntN.{pos}
use Rattle.arith.specs.Bytes.{bytes4, twos}
use Rattle.arith.specs.Lists.{below}
use Rattle.answer_write.specs.Inner.Encoding.{Wrote}
use Rattle.answer_write.proofs.write_rackings.Given as goal

abbrev pub invariant-loop-i : goal.invariant-loop-i
invariant-loop-i l =
    (l.next ≡ l.initial.next + 4 * l.i)
    × Wrote l.initial.answer l.initial.next (flat_map (λ k. bytes4 (twos (get_or l.xs k (pos 0)))) (below l.i)) l.answer l.next
