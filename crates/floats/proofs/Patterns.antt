-- Which patterns and which floats are no NaN. Nothing else of floats is used.
use mathlib.Core.Path.{◌≡◌, sym, subst}
use mathlib.Core.Bool.{true, not}
use Prim.Native.Nat.{ℕ, ◌+◌, ◌*◌, ◌%◌, ◌<◌}
use native.Mathlib.Nat.{mod-le}
use native.Mathlib.Omega.{arith}
use lib.Dec.{T}
use lib.Arith.{le→nltb}
use lib.Ieee.{Float, nan, inf, fin, binary64, eq, is_nan, nan_bits, ones, hid, top}
use lib.Ieee.Bits.{nan_bits_above}

-- 2^52 + x, by its pattern
pub whole_pattern : (x : ℕ) → x < 4503599627370496 → T (not (nan_bits binary64 (4841369599423283200 + x)))
whole_pattern x h =
    subst (λ b. T (not b)) (sym (nan_bits_above binary64 (4841369599423283200 + x)))
    (le→nltb
    (ones binary64 * hid binary64)
    ((4841369599423283200 + x) % top binary64)
    (omega (arith, h, mod-le (4841369599423283200 + x) (top binary64))))

-- what equals itself
pub no_nan : (y : Float) → eq y y ≡ true → T (not (is_nan y))
unfolding eq is_nan
no_nan nan e = subst T (sym e) tt
no_nan (inf s) e = tt
no_nan (fin s m x) e = tt
