-- Signed numbers in words of 64 bits: read back, negated, without their sign.
use Prim.Native.Nat.{ℕ, ◌/◌, ◌^◌, ◌<◌, ◌≤◌}
use mathlib.Core.Bool.{true, false, true≢false}
use mathlib.Core.Path.{◌≡◌, refl}
use native.Mathlib.Omega.{arith}
use borrow.Author.Tests.{ltb-true}
use lib.Dec.{ltb}
use lib.IntN.{ℤ, pos, negsuc, nat_abs, neg_ℤ, ◌-ℤ◌, +ℤ_idl}
use lib.Signed.{quot_z, lt_z}
use mir.Syntax.{w64}
use mir.Val.{Fits, SFits, to_z, of_z}
use mir.ValLaws.{to_z-of_z}
use Rattle.arith.specs.Inner.Sizes.{Small}
use Rattle.arith.proofs.Sizes.{fits64, nat_abs_quot}

-- a word that holds a signed number reads back as it
pub held : {b : ℕ} {z : ℤ} → Small b z → b < 2 ^ 63 → to_z w64 (of_z w64 z) ≡ z
held {z = z} s h = to_z-of_z w64 z (fits64 s h)

pub minus : (z : ℤ) → pos 0 -ℤ z ≡ neg_ℤ z
minus z = +ℤ_idl (neg_ℤ z)

-- a quotient towards zero
pub small_quot : {b c : ℕ} {z : ℤ} (d : ℕ) → Small b z → nat_abs z / d ≤ c → Small c (quot_z z (pos d))
small_quot {z = z} d s h = record { size = rw (nat_abs_quot z d) h }

pub size_fits : (z : ℤ) → SFits w64 z → Fits w64 (nat_abs z)
size_fits (pos n) f = record { fits = omega (arith, f.sfits) }
size_fits (negsuc n) f = record { fits = omega (arith, f.sfits) }

-- below zero
pub not_below_lem : (n : ℕ) → ltb n 0 ≡ true → ⊥
not_below_lem n e = omega (arith, ltb-true n 0 e)

pub below_neg : (z : ℤ) → lt_z z (pos 0) ≡ true → neg_ℤ z ≡ pos (nat_abs z)
below_neg (pos n) e = absurd (not_below_lem n e)
below_neg (negsuc n) e = refl

-- from zero on
pub from_pos : (z : ℤ) → lt_z z (pos 0) ≡ false → z ≡ pos (nat_abs z)
from_pos (pos n) e = refl
from_pos (negsuc n) e = absurd (true≢false e)
