-- `end_verdict::pulls_kept`: none of the tensions passed exceeds its lash's safe load.
use mathlib.Core.Path.{◌≡◌}
use Rattle.answer_put.specs.Inner.Puts.{lash_limit}
use lib.ListN.{get_or}
use Rattle.end_verdict.specs.Inner.NoneOver.{none_over}
use Rattle.end_verdict.proofs.pulls_kept.Given as goal

abbrev pub invariant-loop-j : goal.invariant-loop-j
invariant-loop-j l =
    l.kept ≡ none_over (λ k. get_or l.xs k 0) (lash_limit l.lashes) 0 l.j
