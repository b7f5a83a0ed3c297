-- Sizes of signed numbers: of sums, products and quotients, and the widths that they fit.
use Prim.Native.Nat.{ℕ, zero, suc, ◌+◌, ◌*◌, ◌-◌, ◌/◌, ◌^◌, ◌<◌, ◌≤◌}
use mathlib.Core.Bool.{Bool, true, false, cond}
use mathlib.Core.Path.{◌≡◌, refl}
use native.Mathlib.Nat.{mul-le-mul}
use native.Mathlib.Omega.{arith}
use borrow.Author.Tests.{ltb-true}
use lib.Dec.{ltb}
use lib.IntN.{ℤ, pos, negsuc, nat_abs, neg_ℤ, sub_ℕ, ◌+ℤ◌, ◌-ℤ◌, ◌*ℤ◌}
use lib.Signed.{mag, quot_z}
use mir.Syntax.{w32, w64}
use mir.Val.{SFits, to_z}
use mir.ValLaws.{to_z-of_z}
use Rattle.arith.specs.Inner.Sizes.{Small}

mag_le : (z : ℤ) → mag z ≤ nat_abs z
mag_le (pos n) = omega arith
mag_le (negsuc n) = omega arith

pub fits64 : {b : ℕ} {z : ℤ} → Small b z → b < 2 ^ 63 → SFits w64 z
fits64 {b} {z} s h = record { sfits = omega (arith, mag_le z, s.size) }

pub fits32 : {b : ℕ} {z : ℤ} → Small b z → b < 2 ^ 31 → SFits w32 z
fits32 {b} {z} s h = record { sfits = omega (arith, mag_le z, s.size) }

pub small_weaken : {a b : ℕ} {z : ℤ} → Small a z → a ≤ b → Small b z
small_weaken s h = record { size = omega (arith, s.size) }

-- the size of a number of 64 bits
pub nat_abs64 : (z : ℤ) → SFits w64 z → nat_abs z ≤ 2 ^ 63
nat_abs64 (pos n) f = omega (arith, f.sfits)
nat_abs64 (negsuc n) f = omega (arith, f.sfits)

-- the size of a negation, a sum, a difference, a product
pub nat_abs_neg : (z : ℤ) → nat_abs (neg_ℤ z) ≡ nat_abs z
nat_abs_neg (pos zero) = refl
nat_abs_neg (pos (suc n)) = refl
nat_abs_neg (negsuc n) = refl

nat_abs_sub_at : (a b : ℕ) (t : Bool) → ltb a b ≡ t → nat_abs (cond t (negsuc (b - suc a)) (pos (a - b))) ≤ a + b
nat_abs_sub_at a b true e = omega (arith, ltb-true a b e)
nat_abs_sub_at a b false e = omega arith

nat_abs_sub : (a b : ℕ) → nat_abs (sub_ℕ a b) ≤ a + b
nat_abs_sub a b = nat_abs_sub_at a b (ltb a b) refl

pub nat_abs_add : (x y : ℤ) → nat_abs (x +ℤ y) ≤ nat_abs x + nat_abs y
nat_abs_add (pos a) (pos b) = omega arith
nat_abs_add (pos a) (negsuc b) = nat_abs_sub a (suc b)
nat_abs_add (negsuc a) (pos b) = omega (arith, nat_abs_sub b (suc a))
nat_abs_add (negsuc a) (negsuc b) = omega arith

pub nat_abs_mul : (x y : ℤ) → nat_abs (x *ℤ y) ≡ nat_abs x * nat_abs y
nat_abs_mul (pos a) (pos b) = refl
nat_abs_mul (pos a) (negsuc b) = nat_abs_neg (pos (a * suc b))
nat_abs_mul (negsuc a) (pos b) = nat_abs_neg (pos (suc a * b))
nat_abs_mul (negsuc a) (negsuc b) = refl

pub small_pos : {b n : ℕ} → n ≤ b → Small b (pos n)
small_pos h = record { size = h }

pub small_neg : {b : ℕ} {z : ℤ} → Small b z → Small b (neg_ℤ z)
small_neg {b} {z} s = record { size = rw (nat_abs_neg z) s.size }

pub small_add : {a b : ℕ} {x y : ℤ} → Small a x → Small b y → Small (a + b) (x +ℤ y)
small_add {a} {b} {x} {y} s t = record { size = omega (arith, nat_abs_add x y, s.size, t.size) }

pub small_sub : {a b : ℕ} {x y : ℤ} → Small a x → Small b y → Small (a + b) (x -ℤ y)
small_sub s t = small_add s (small_neg t)

pub small_mul : {a b : ℕ} {x y : ℤ} → Small a x → Small b y → Small (a * b) (x *ℤ y)
small_mul {a} {b} {x} {y} s t = record { size = rw (nat_abs_mul x y) (mul-le-mul s.size t.size) }

-- division towards zero
pub nat_abs_quot : (z : ℤ) (d : ℕ) → nat_abs (quot_z z (pos d)) ≡ nat_abs z / d
nat_abs_quot (pos a) d = refl
nat_abs_quot (negsuc a) d = nat_abs_neg (pos (suc a / d))

-- a number of 63 bits, as a signed number
pub divisor : (d : ℕ) → d < 2 ^ 63 → to_z w64 d ≡ pos d
divisor d h = to_z-of_z w64 (pos d) (record { sfits = h })
