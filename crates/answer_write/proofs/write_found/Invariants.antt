-- `answer_write::write_found`: the findings passed are stored.
use Prim.Native.Nat.{◌+◌, ◌*◌}
use mathlib.Core.Path.{◌≡◌}
use mathlib.Core.List.{flat_map}
use lib.ListN.{take}
use Rattle.answer_put.specs.Inner.Puts.{word_bytes}
use Rattle.answer_write.specs.Inner.Encoding.{Wrote}
use Rattle.answer_write.proofs.write_found.Given as goal

abbrev pub invariant-loop-i : goal.invariant-loop-i
invariant-loop-i l =
    (l.next ≡ l.at + 3 * l.i) × Wrote l.initial.answer l.at (flat_map word_bytes (take l.i l.found)) l.answer l.next
