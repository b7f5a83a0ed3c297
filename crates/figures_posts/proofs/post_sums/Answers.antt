-- `figures_posts::post_sums`: both sums stay within 64 bits.
use mathlib.Core.Path.{refl}
use native.Mathlib.Omega.{arith}
use lib.Dec.{lit<, lit≤}
use Rattle.arith.proofs.Sizes.{divisor, fits64, small_neg, small_weaken}
use Rattle.figures_posts.proofs.LevelLaws.{post_small}
use Rattle.arith.proofs.SignedWords.{held}
use Rattle.figures_posts.proofs.post_sums.Goals as goal

pub overflow_add-result : goal.overflow_add-result
overflow_add-result c =
    simp (held c.requires.0 (lit< tt), divisor c.args.parts.lee (omega arith))
    (fits64 (post_small c.requires.0 c.requires.1) (lit< tt))

pub negative-requires : goal.negative-requires
negative-requires c = rw (held c.requires.0 (lit< tt)) (small_weaken c.requires.0 (lit≤ tt))

pub overflow_add-result-2 : goal.overflow_add-result-2
overflow_add-result-2 c =
    let n = small_neg c.requires.0 in
    let reversed = simp (held c.requires.0 (lit< tt)) at c.negative.ensures in
    simp (reversed, held n (lit< tt), divisor c.args.parts.windward (omega arith)) (fits64 (post_small n c.requires.2) (lit< tt))

pub returns : goal.returns
returns c =
    let n = small_neg c.requires.0 in
    let reversed = simp (held c.requires.0 (lit< tt)) at c.negative.ensures in
    let l = post_small c.requires.0 c.requires.1 in
    let w = post_small n c.requires.2 in
    simp (
      held c.requires.0 (lit< tt),
      divisor c.args.parts.lee (omega arith),
      held l (lit< tt),
      reversed,
      held n (lit< tt),
      divisor c.args.parts.windward (omega arith),
      held w (lit< tt),
    )
    record { lee_value = (refl, l); windward_value = (refl, w) }
