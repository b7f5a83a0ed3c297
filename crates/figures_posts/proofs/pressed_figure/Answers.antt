-- `figures_posts::pressed_figure`: the greater sum with weight and pad is in range, and from 0 on nothing is cut off (LevelLaws).
use Prim.Native.Nat.{◌*◌, ◌^◌}
use mathlib.Core.Path.{◌≡◌, ap, subst, ◌∙◌}
use native.Mathlib.Omega.{arith}
use lib.Dec.{lit<}
use lib.IntN.{ℤ, pos, nat_abs, ◌+ℤ◌}
use mir.Syntax.{w64}
use mir.Val.{Fits, SFits}
use mir.ValLaws.{to_z-of_z}
use Rattle.arith.specs.Inner.Sizes.{Small}
use Rattle.arith.proofs.Sizes.{divisor, fits64}
use Rattle.statics.specs.Inner.WholeNumbers.{post_figure}
use Rattle.figures_posts.specs.Inner.Posts.{greater_of}
use Rattle.figures_posts.proofs.LevelLaws.{greater_small, weighed, pressed_small, pressed_rounded}
use Rattle.arith.proofs.SignedWords.{held, size_fits}
use Rattle.figures_posts.proofs.pressed_figure.Goals as goal

-- the greater sum
sum : (c : goal.After-greater) → c.greater.result ≡ greater_of c.args.x c.args.y
sum c = simp (held c.requires.1 (lit< tt), held c.requires.2 (lit< tt)) at c.greater.ensures

sum_small : (c : goal.After-greater) → Small (5 * 2 ^ 60) (greater_of c.args.x c.args.y)
sum_small c = greater_small c.requires.1 c.requires.2

pub overflow_add-greater : goal.overflow_add-greater
overflow_add-greater c =
    let s = sum_small c in
    simp (sum c, held s (lit< tt), divisor c.args.weight (omega arith)) (fits64 (weighed c.requires.0 s) (lit< tt))

pub overflow_add-greater-2 : goal.overflow_add-greater-2
overflow_add-greater-2 c =
    let s = sum_small c in
    let w = weighed c.requires.0 s in
    simp (sum c, held s (lit< tt), divisor c.args.weight (omega arith), held w (lit< tt))
    (fits64 (pressed_small c.requires.0 s) (lit< tt))

pub newtons_up-requires : goal.newtons_up-requires
newtons_up-requires c =
    let s = sum_small c in
    let w = weighed c.requires.0 s in
    let p = pressed_small c.requires.0 s in
    simp (sum c, held s (lit< tt), divisor c.args.weight (omega arith), held w (lit< tt), held p (lit< tt)) p

-- what is cast is the figure
rounded :
    (c : goal.After-newtons_up) →
    let a = c.args in
    c.newtons_up.result ≡ pos (post_figure (pos a.weight +ℤ a.x) (pos a.weight +ℤ a.y))
rounded c =
    let s = sum_small c.before in
    let w = weighed c.requires.0 s in
    let p = pressed_small c.requires.0 s in
    simp (sum c.before, held s (lit< tt), divisor c.args.weight (omega arith), held w (lit< tt), held p (lit< tt)) at c.newtons_up.ensures.0
    ∙ pressed_rounded c.args.weight c.args.x c.args.y c.requires.3

pub overflow_cast-result : goal.overflow_cast-result
overflow_cast-result c =
    let k = c.newtons_up in
    let f : SFits w64 k.result = record { sfits = k.type_inv } in
    rw (to_z-of_z w64 k.result f, rounded c) (tt, subst (λ (z : ℤ). Fits w64 (nat_abs z)) (rounded c) (size_fits k.result f))

pub returns : goal.returns
returns c =
    let k = c.newtons_up in
    rw (to_z-of_z w64 k.result (record { sfits = k.type_inv })) (ap nat_abs (rounded c))
