-- `answer_put::put_pulls`: the findings of the lashes passed are put.
use Prim.Native.Nat.{◌+◌, ◌≤◌}
use lib.ListN.{get_or}
use Rattle.answer_put.specs.Inner.Puts.{Put, lash_limit, findings_over}
use Rattle.answer_put.proofs.put_pulls.Given as goal

abbrev pub invariant-loop-j : goal.invariant-loop-j
invariant-loop-j l =
    (l.next ≤ l.at + l.j)
    × Put l.initial.found l.at (findings_over l.end 5 0 (λ k. get_or l.xs k 0) (lash_limit l.lashes) l.j) l.found l.next
