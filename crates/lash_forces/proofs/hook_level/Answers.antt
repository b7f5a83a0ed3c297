-- `lash_forces::hook_level`: the tier less the hook, which a lash in its limits has above 0.
use native.Mathlib.Omega.{arith}
use mathlib.Core.Path.{refl}
use Rattle.sheet.specs.Lashings.{level_of}
use Rattle.lash_forces.proofs.hook_level.Goals as goal

pub overflow_sub-result : goal.overflow_sub-result
unfolding level_of
overflow_sub-result c = omega (arith, c.requires.raised)

pub returns : goal.returns
unfolding level_of
returns c = (refl, c.requires.raised, c.requires.inside)
