-- `end_verdict::all_kept`: none of the sizes passed exceeds the limit.
use mathlib.Core.Path.{◌≡◌}
use lib.ListN.{get_or}
use Rattle.end_verdict.specs.Inner.NoneOver.{none_over}
use Rattle.end_verdict.proofs.all_kept.Given as goal

abbrev pub invariant-loop-k : goal.invariant-loop-k
invariant-loop-k l =
    l.kept ≡ none_over (λ i. get_or l.xs i 0) (λ i. l.limit) l.first l.k
