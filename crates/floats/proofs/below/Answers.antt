-- `floats::below`: the low bits of the sum with the float before 2^52.
use Rattle.floats.specs.Inner.Floats.{below_of}
use Rattle.floats.proofs.below.Goals as goal

pub returns : goal.returns
unfolding below_of
returns c = c.low_bits.ensures
