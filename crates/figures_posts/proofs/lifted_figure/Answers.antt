-- `figures_posts::lifted_figure`: the lesser sum, taken with the weight from the pad, is in range, and is cut off at 0 (LevelLaws).
use Prim.Native.Nat.{◌*◌, ◌^◌}
use mathlib.Core.Path.{◌≡◌, ap, ◌∙◌}
use native.Mathlib.Omega.{arith}
use lib.Dec.{lit<}
use mir.Syntax.{w64}
use mir.ValLaws.{to_z-of_z}
use Rattle.arith.specs.Inner.Sizes.{Small}
use Rattle.arith.proofs.Sizes.{divisor, fits64}
use Rattle.statics.specs.Inner.WholeNumbers.{not_below}
use Rattle.figures_posts.specs.Inner.Posts.{lesser_of}
use Rattle.figures_posts.proofs.LevelLaws.{lesser_small, unweighed, lifted_small, lifted_rounded}
use Rattle.arith.proofs.SignedWords.{held}
use Rattle.figures_posts.proofs.lifted_figure.Goals as goal

pub overflow_sub-weight : goal.overflow_sub-weight
overflow_sub-weight c = simp (divisor c.args.weight (omega arith)) (fits64 (unweighed c.requires.0) (lit< tt))

-- the lesser sum
sum : (c : goal.After-lesser) → c.lesser.result ≡ lesser_of c.args.x c.args.y
sum c = simp (held c.requires.1 (lit< tt), held c.requires.2 (lit< tt)) at c.lesser.ensures

sum_small : (c : goal.After-lesser) → Small (5 * 2 ^ 60) (lesser_of c.args.x c.args.y)
sum_small c = lesser_small c.requires.1 c.requires.2

pub overflow_sub-weight-2 : goal.overflow_sub-weight-2
overflow_sub-weight-2 c =
    let s = sum_small c in
    let w = unweighed c.requires.0 in
    simp (divisor c.args.weight (omega arith), held w (lit< tt), sum c, held s (lit< tt))
    (fits64 (lifted_small c.requires.0 s) (lit< tt))

pub newtons_up-requires : goal.newtons_up-requires
newtons_up-requires c =
    let s = sum_small c in
    let w = unweighed c.requires.0 in
    let p = lifted_small c.requires.0 s in
    simp (divisor c.args.weight (omega arith), held w (lit< tt), sum c, held s (lit< tt), held p (lit< tt)) p

pub returns : goal.returns
returns c =
    let k = c.newtons_up in
    let s = sum_small c.before.before in
    let w = unweighed c.requires.0 in
    let p = lifted_small c.requires.0 s in
    let r =
    simp (divisor c.args.weight (omega arith), held w (lit< tt), sum c.before.before, held s (lit< tt), held p (lit< tt)) at k.ensures.0 in
    c.not_below.ensures
    ∙ ap not_below (to_z-of_z w64 k.result (record { sfits = k.type_inv }) ∙ r)
    ∙ lifted_rounded c.args.weight c.args.x c.args.y
