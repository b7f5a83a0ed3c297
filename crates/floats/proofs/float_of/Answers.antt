use mathlib.Core.Path.{refl}
use Rattle.floats.specs.Inner.Floats.{float_of}
use Rattle.floats.proofs.Patterns.{whole_pattern}
use Rattle.floats.proofs.float_of.Goals as goal

pub float_from_bits-result : goal.float_from_bits-result
float_from_bits-result c = whole_pattern c.args.x c.requires

pub returns : goal.returns
unfolding float_of
returns c = refl
