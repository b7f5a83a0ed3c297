-- `answer_put::put_rackings`: the findings of the rackings passed are put.
use Prim.Native.Nat.{◌+◌, ◌≤◌, ◌-◌}
use lib.ListN.{get_or}
use lib.IntN.{pos, nat_abs}
use Rattle.answer.specs.Limits.{racking_limit}
use Rattle.answer_put.specs.Inner.Puts.{Put, findings_over}
use Rattle.answer_put.proofs.put_rackings.Given as goal

abbrev pub invariant-loop-k : goal.invariant-loop-k
invariant-loop-k l =
    (l.next ≤ l.at + l.k) × Put l.initial.found l.at
    (findings_over l.end 1 1 (λ i. nat_abs (get_or l.xs (i - 1) (pos 0))) (λ i. racking_limit) l.k) l.found l.next
