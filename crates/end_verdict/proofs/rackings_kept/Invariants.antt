-- `end_verdict::rackings_kept`: none of the rackings passed exceeds the limit in size.
use Prim.Native.Nat.{◌-◌}
use mathlib.Core.Path.{◌≡◌}
use lib.IntN.{pos, nat_abs}
use Rattle.answer.specs.Limits.{racking_limit}
use lib.ListN.{get_or}
use Rattle.end_verdict.specs.Inner.NoneOver.{none_over}
use Rattle.end_verdict.proofs.rackings_kept.Given as goal

abbrev pub invariant-loop-k : goal.invariant-loop-k
invariant-loop-k l =
    l.kept ≡ none_over (λ i. nat_abs (get_or l.xs (i - 1) (pos 0))) (λ i. racking_limit) 1 l.k
