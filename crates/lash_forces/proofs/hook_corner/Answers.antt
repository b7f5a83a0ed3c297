-- `lash_forces::hook_corner`: twice the tier less the hook, which a lash in its limits has at most 1.
use native.Mathlib.Omega.{arith}
use mathlib.Core.Path.{refl}
use Rattle.lash_forces.specs.Inner.OneLash.{corner_of}
use Rattle.lash_forces.proofs.hook_corner.Goals as goal

pub overflow_mul-result : goal.overflow_mul-result
overflow_mul-result c = omega (arith, c.requires.tier_most)

pub overflow_sub-result : goal.overflow_sub-result
overflow_sub-result c =
    let p = c.requires in
    omega (arith, p.hook, p.tier)

pub returns : goal.returns
unfolding corner_of
returns c = (refl, omega (arith, c.requires.tier_most))
