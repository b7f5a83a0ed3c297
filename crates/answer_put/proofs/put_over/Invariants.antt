-- `answer_put::put_over`: the findings of the sizes passed are put.
use Prim.Native.Nat.{◌+◌, ◌≤◌}
use lib.ListN.{get_or}
use Rattle.answer_put.specs.Inner.Puts.{Put, findings_over}
use Rattle.answer_put.proofs.put_over.Given as goal

abbrev pub invariant-loop-k : goal.invariant-loop-k
invariant-loop-k l =
    (l.next ≤ l.at + l.k)
    × Put l.initial.found l.at (findings_over l.end l.kind l.first (λ i. get_or l.xs i 0) (λ i. l.limit) l.k) l.found l.next
