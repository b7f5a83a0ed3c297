-- `answer_put::put_rackings`: the findings of the rackings passed are put.
use Prim.Native.Nat.{ℕ, ◌+◌, ◌-◌}
use mathlib.Core.Path.{◌≡◌, refl, ap, ◌∙◌}
use native.Mathlib.Omega.{arith}
use lib.Dec.{ltb}
use lib.ListN.{get_or}
use lib.IntN.{pos, nat_abs}
use mir.Syntax.{w32}
use mir.Val.{SFits}
use mir.ValLaws.{to_z-of_z}
use Rattle.answer.specs.Limits.{racking_limit}
use Rattle.answer_put.proofs.Puts.{over_none, over_more}
use borrow.Author.Rules.{rules}
use Rattle.answer_put.proofs.put_rackings.Goals as goal

pub loop-k-init : goal.loop-k-init
loop-k-init c = (omega arith, over_none _ _ _ _ _ _ _)

pub loop-k-preserved : goal.loop-k-preserved
loop-k-preserved c =
    let l = c.loop-k in
    let xs = c.args.xs.now in
    let g : SFits w32 (get_or xs l.k (pos 0)) = search rules in
    let b : l.k ≡ 1 + l.k - 1 = omega arith in
    let e =
    (rw (to_z-of_z w32 _ g) at c.racking_over.ensures) ∙ ap (λ (i : ℕ). ltb racking_limit (nat_abs (get_or xs i (pos 0)))) b in
    (omega arith, over_more _ _ _ _ _ l.k l.invariant.1 refl (rw e at c.put_where-next.ensures.put.0))
