-- The definitions compute: 17.33 is nearest to 17.
use mathlib.Core.Path.{◌≡◌, refl}
use lib.Ieee.{of_bits, to_bits, add, sub, div, eq, neg, binary64}
use Rattle.floats.specs.Inner.Floats.{float_of, near_of}

seventeen : near_of (div binary64 (float_of 1234567) (float_of 71234)) ≡ 17
unfolding near_of float_of of_bits to_bits add sub div eq neg
seventeen = refl
