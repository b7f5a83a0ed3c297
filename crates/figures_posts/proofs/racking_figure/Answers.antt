-- `figures_posts::racking_figure`: with what `outward` adds, a shift rounds the padded size up (Shifts), and the sum is in range.
use Prim.Native.Nat.{◌^◌}
use mathlib.Core.Path.{◌≡◌}
use lib.Dec.{lit<, lit≤}
use lib.IntN.{◌+ℤ◌}
use lib.Signed.{shr_z}
use mir.Syntax.{w32, w64}
use mir.Val.{SFits, to_z, of_z}
use mir.ValLaws.{to_z-of_z}
use Rattle.arith.specs.Inner.Sizes.{Small}
use Rattle.arith.proofs.Sizes.{fits32, fits64, small_add, small_weaken}
use Rattle.statics.specs.Inner.WholeNumbers.{racking_figure}
use Rattle.figures_posts.specs.Inner.Posts.{outward_of}
use Rattle.figures_posts.proofs.Shifts.{racking_shifted, racking_figure_small}
use Rattle.arith.proofs.SignedWords.{held}
use Rattle.figures_posts.proofs.racking_figure.Goals as goal

-- what is added, and the sum
added : (c : goal.After-outward) → c.outward.result ≡ outward_of c.args.part
added c = simp (held c.requires (lit< tt)) at c.outward.ensures.0

added-small : (c : goal.After-outward) → Small (2 ^ 19) (outward_of c.args.part)
added-small c = rw (← added c) c.outward.ensures.1

sum_small : (c : goal.After-outward) → let z = c.args.part in Small (2 ^ 46) (z +ℤ outward_of z)
sum_small c = small_weaken (small_add c.requires (added-small c)) (lit≤ tt)

pub overflow_add-result : goal.overflow_add-result
overflow_add-result c =
    simp (held c.requires (lit< tt), added c, held (added-small c) (lit< tt)) (fits64 (sum_small c) (lit< tt))

-- what the shift leaves is the figure, and fits its words
figure :
    (c : goal.After-outward) →
    let z = c.args.part in
    to_z w64 (of_z w64 (shr_z (to_z w64 (of_z w64 (to_z w64 (of_z w64 z) +ℤ to_z w64 (of_z w64 c.outward.result)))) 262144)) ≡
    racking_figure z
figure c =
    let z = c.args.part in
    simp (
      held c.requires (lit< tt),
      added c,
      held (added-small c) (lit< tt),
      held (sum_small c) (lit< tt),
      racking_shifted z,
      held (racking_figure_small z c.requires) (lit< tt),
    )

fits : (c : goal.After-outward) → SFits w32 (racking_figure c.args.part)
fits c = fits32 (racking_figure_small c.args.part c.requires) (lit< tt)

pub overflow_cast-result : goal.overflow_cast-result
overflow_cast-result c = rw (figure c) (fits c)

pub returns : goal.returns
returns c = rw (figure c, to_z-of_z w32 (racking_figure c.args.part) (fits c))
