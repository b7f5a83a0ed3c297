-- `figures_posts::moment_under`: the product and the sum stay within 64 bits.
use mathlib.Core.Path.{refl}
use native.Mathlib.Omega.{arith}
use lib.Dec.{lit<}
use Rattle.arith.proofs.Sizes.{divisor, fits64}
use Rattle.figures_posts.proofs.LevelLaws.{tier_moment_small, moment_small}
use Rattle.arith.proofs.SignedWords.{held}
use Rattle.figures_posts.proofs.moment_under.Goals as goal

pub overflow_mul-result : goal.overflow_mul-result
overflow_mul-result c =
    let a = c.args in
    rw (divisor a.height (omega arith), held c.requires.1 (lit< tt))
    (fits64 (tier_moment_small c.requires.2 c.requires.1) (lit< tt))

pub overflow_add-result : goal.overflow_add-result
overflow_add-result c =
    let a = c.args in
    let t = tier_moment_small c.requires.2 c.requires.1 in
    let m = moment_small c.requires.2 c.requires.1 c.requires.0 in
    simp (divisor a.height (omega arith), held c.requires.1 (lit< tt), held t (lit< tt), held c.requires.0 (lit< tt)) (fits64 m (lit< tt))

pub returns : goal.returns
returns c =
    let a = c.args in
    let t = tier_moment_small c.requires.2 c.requires.1 in
    let m = moment_small c.requires.2 c.requires.1 c.requires.0 in
    simp
    (divisor a.height (omega arith), held c.requires.1 (lit< tt), held t (lit< tt), held c.requires.0 (lit< tt), held m (lit< tt))
    (refl, m)
