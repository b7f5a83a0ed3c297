-- `figures_under::level_under`: moment, posts and figures of the level, each by the function that finds it.
use mathlib.Core.Path.{refl}
use native.Mathlib.Omega.{arith}
use lib.Dec.{lit<}
use Rattle.statics.specs.Inner.WholeNumbers.{lee_found, windward_found}
use Rattle.arith.proofs.SignedWords.{held}
use Rattle.figures_under.proofs.level_under.Goals as goal

pub compression_of-requires : goal.compression_of-requires
compression_of-requires c =
    let p = c.requires in
    let l = c.couple_of-couple.ensures.1 in (
      omega (arith, p.vmax_bound),
      rw (held l (lit< tt)) l,
      omega (arith, p.lee_bound, p.lee_bound_2),
      omega (arith, p.lee_bound, p.lee_bound_2),
    )

pub tension_of-requires : goal.tension_of-requires
tension_of-requires c =
    let p = c.requires in
    let l = c.couple_of-couple.ensures.1 in (
      omega (arith, p.vmax_bound),
      rw (held l (lit< tt)) l,
      omega (arith, p.lee_bound, p.lee_bound_2),
      omega (arith, p.lee_bound, p.lee_bound_2),
    )

pub returns : goal.returns
unfolding lee_found windward_found
returns c =
    let m = c.moment_under-moment.ensures in
    let l = c.couple_of-couple.ensures in
    let e = simp (held c.requires.small.0 (lit< tt), held c.requires.small.1 (lit< tt)) at m.0 in
    let q = simp e at (simp (held m.1 (lit< tt)) at l.0) in
    let x = simp q at (simp (held l.1 (lit< tt)) at c.compression_of.ensures) in
    let y = simp q at (simp (held l.1 (lit< tt)) at c.tension_of.ensures) in
    record { moment_value = rw (held m.1 (lit< tt)) e; lee_value = refl; windward_value = refl; compression_value = x; tension_value = y }
