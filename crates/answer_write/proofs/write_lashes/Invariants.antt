-- `answer_write::write_lashes`: behind the count, the lashes passed are stored.
use Prim.Native.Nat.{◌+◌, ◌*◌}
use mathlib.Core.Path.{◌≡◌}
use mathlib.Core.List.{flat_map}
use lib.ListN.{get_or}
use Rattle.arith.specs.Lists.{below}
use Rattle.answer_write.specs.Inner.Encoding.{Wrote, lash_bytes}
use Rattle.answer_write.proofs.write_lashes.Given as goal

abbrev pub invariant-loop-j : goal.invariant-loop-j
invariant-loop-j l =
    (l.next ≡ l.initial.next + 12 * l.j) × Wrote l.initial.answer l.initial.next
    (flat_map (λ k. lash_bytes (get_or l.pull k 0) (get_or l.athwart k 0) (get_or l.vertical k 0)) (below l.j)) l.answer l.next
