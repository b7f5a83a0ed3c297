-- The whole numbers next to a fraction.
use Rattle.std.specs.Prelude.{ℤ, neg_ℤ, nat_abs}
use Rattle.std.specs.Int.Signed.{shr_z}
use Rattle.arith.specs.Fractions.{Frac, negq}

-- the greatest whole number not above a fraction: its top over its bottom, rounded down, below zero too (Theorems, `Wholes`)
unfoldable pub floor : Frac → ℤ
floor x = shr_z x.top (nat_abs x.bot)

-- the least whole number not below a fraction
unfoldable pub ceiling : Frac → ℤ
ceiling x = neg_ℤ (floor (negq x))
