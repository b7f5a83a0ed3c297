-- `figures_posts::newtons_up`: a shift of the force and a newton less one step rounds up (Shifts), and the sum is in range.
use Prim.Native.Nat.{◌^◌}
use mathlib.Core.Path.{refl}
use native.Mathlib.Omega.{arith}
use lib.Dec.{lit<, lit≤}
use Rattle.arith.proofs.Sizes.{fits64, small_add, small_pos}
use Rattle.figures_posts.proofs.Shifts.{shifted, rounded_small}
use Rattle.arith.proofs.SignedWords.{held}
use Rattle.figures_posts.proofs.newtons_up.Goals as goal

pub overflow_add-result : goal.overflow_add-result
overflow_add-result c = rw (held c.requires (lit< tt)) (fits64 (small_add c.requires (small_pos {b = 2 ^ 18} (lit≤ tt))) (lit< tt))

pub returns : goal.returns
returns c =
    let m = c.args.m in
    let s = small_add c.requires (small_pos {b = 2 ^ 18} {n = 262143} (lit≤ tt)) in
    let r = rounded_small m in
    simp (held c.requires (lit< tt), held s (lit< tt), shifted m, held r (omega (arith, c.requires.size))) (refl, r)
