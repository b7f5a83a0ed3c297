-- `figures_posts::racking_part`: both products, their difference and what a shift leaves of it stay within 64 bits.
use Rattle.arith.proofs.SignedWords.{held}
use Prim.Native.Nat.{◌*◌}
use mathlib.Core.Path.{refl}
use native.Mathlib.Omega.{arith}
use lib.Dec.{lit<}
use Rattle.arith.proofs.Sizes.{divisor, fits64}
use Rattle.springs.proofs.Ranges.{force_le, force_small}
use Rattle.figures_posts.proofs.LevelLaws.{racking_small}
use Rattle.figures_posts.proofs.racking_part.Goals as goal

pub overflow_mul-result : goal.overflow_mul-result
overflow_mul-result c = omega (arith, force_le c.requires.0 c.requires.1)

pub overflow_cast-result : goal.overflow_cast-result
overflow_cast-result c = omega (arith, force_le c.requires.0 c.requires.1)

pub overflow_mul-result-2 : goal.overflow_mul-result-2
overflow_mul-result-2 c = omega (arith, force_le c.requires.0 c.requires.2)

pub overflow_cast-result-2 : goal.overflow_cast-result-2
overflow_cast-result-2 c = omega (arith, force_le c.requires.0 c.requires.2)

pub overflow_sub-result : goal.overflow_sub-result
overflow_sub-result c =
    let u = force_le c.requires.0 c.requires.1 in
    let l = force_le c.requires.0 c.requires.2 in
    rw (divisor (c.args.k * c.args.upper) (omega arith), divisor (c.args.k * c.args.lower) (omega arith))
    (fits64 (force_small c.requires.0 c.requires.1 c.requires.2) (lit< tt))

pub returns : goal.returns
returns c =
    let a = c.args in
    let u = force_le c.requires.0 c.requires.1 in
    let l = force_le c.requires.0 c.requires.2 in
    let s = racking_small c.requires.0 c.requires.1 c.requires.2 in
    simp (
      divisor (a.k * a.upper) (omega arith),
      divisor (a.k * a.lower) (omega arith),
      held (force_small c.requires.0 c.requires.1 c.requires.2) (lit< tt),
      held s (lit< tt),
    )
    (refl, s)
