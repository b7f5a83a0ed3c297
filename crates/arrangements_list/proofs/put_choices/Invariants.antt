-- `arrangements_list::put_choices`: after i turns the accepted ones of the first i choices are put (Walk).
use Prim.Native.Nat.{◌+◌, ◌≤◌}
use lib.ListN.{take}
use Rattle.answer_write.specs.Inner.Encoding.{Wrote}
use Rattle.arrangements_list.proofs.Walk.{up_to}
use Rattle.arrangements_list.proofs.put_choices.Given as goal

abbrev pub invariant-loop-i : goal.invariant-loop-i
invariant-loop-i l =
    (l.next ≤ 2 + l.i) × Wrote l.initial.list 2 (up_to l.stack.sheet (take l.m l.lashes) l.m l.i) l.list l.next
