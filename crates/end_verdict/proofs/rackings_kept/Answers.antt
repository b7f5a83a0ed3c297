-- `end_verdict::rackings_kept`: none of the rackings passed exceeds the limit in size.
use Prim.Native.Nat.{ℕ, ◌+◌, ◌-◌}
use mathlib.Core.Path.{◌≡◌, ap, ◌∙◌}
use lib.Dec.{ltb}
use lib.IntN.{pos, nat_abs}
use mir.Syntax.{w32}
use mir.Val.{SFits}
use mir.ValLaws.{to_z-of_z}
use Rattle.answer.specs.Limits.{racking_limit}
use native.Mathlib.Omega.{arith}
use lib.ListN.{get_or}
use borrow.Author.Rules.{rules}
use Rattle.end_verdict.proofs.NoneFound.{kept_none, kept_more}
use Rattle.end_verdict.proofs.rackings_kept.Goals as goal

pub loop-k-init : goal.loop-k-init
loop-k-init c = kept_none _ _ _

pub loop-k-preserved : goal.loop-k-preserved
loop-k-preserved c =
    let l = c.loop-k in
    let xs = c.args.xs.now in
    let g : SFits w32 (get_or xs l.k (pos 0)) = search rules in
    let b : l.k ≡ 1 + l.k - 1 = omega arith in
    let e = (rw (to_z-of_z w32 _ g) at c.racking_over.ensures) ∙ ap (λ (i : ℕ). ltb racking_limit (nat_abs (get_or xs i (pos 0)))) b in
    kept_more _ _ _ l.k l.invariant e
