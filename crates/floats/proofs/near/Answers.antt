-- `floats::near`: the low bits of the sum with 2^52.
use Rattle.floats.specs.Inner.Floats.{near_of}
use Rattle.floats.proofs.near.Goals as goal

pub returns : goal.returns
unfolding near_of
returns c = c.low_bits.ensures
