-- Whole numbers as floats and back, by name: floats are data of the logic, and each operation on them is a total function. Nothing here
-- need be believed, since what is found by floats is tested in whole numbers.
use Rattle.std.specs.Prelude.{cond, ℕ, ◌+◌, ◌%◌, Float}
use Rattle.std.specs.Float.{binary64}
use Rattle.std.specs.Float.Ieee.{add, sub, eq, of_bits, to_bits}

-- 2^52, whose last bit is worth 1
abbrev pub magic : Float
magic = of_bits binary64 4841369599423283200

unfoldable pub float_of : ℕ → Float
float_of x = sub binary64 (of_bits binary64 (4841369599423283200 + x)) magic

-- the bits of a float below 2^52; 0 of what is no number
abbrev pub low_bits : Float → ℕ
low_bits y = cond (eq y y) (to_bits binary64 y % 4503599627370496) 0

unfoldable pub near_of : Float → ℕ
near_of x = low_bits (add binary64 x magic)

-- 2^52 - 0.5, the float before 2^52
abbrev pub half_before : Float
half_before = of_bits binary64 4841369599423283199

unfoldable pub below_of : Float → ℕ
below_of x = low_bits (add binary64 x half_before)
