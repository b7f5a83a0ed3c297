-- The ranges of what is given: as 18 leaves them, and read by the code.
use Prim.Native.Nat.{ℕ, ◌≤◌}
use mathlib.Core.Bool.{true, false, false≢true, true≢false}
use mathlib.Core.Path.{◌≡◌, refl}
use native.Mathlib.Omega.{arith}
use borrow.Author.Tests.{ltb-true, ltb-false, le-leb, lt-leb}
use lib.Dec.{T, leb→le, lit<}
use lib.IntN.{ℤ, pos, negsuc, nat_abs}
use lib.Signed.{◌≤ℤ◌, lt_z, non_neg}
use mir.Syntax.{w32, w64}
use mir.Val.{Fits, SFits}
use Rattle.arith.specs.Inner.Sizes.{Small}
use Rattle.arith.proofs.Sizes.{fits32}
use Rattle.roll.specs.Rounded.{cut}

-- a place from 0 to the ship's length reads as it is without a sign
module _ {length : ℕ} (l : length ≤ 500000) where
  pub place : (x : ℤ) → pos 0 ≤ℤ x → x ≤ℤ pos length → (pos (nat_abs x) ≡ x) × (nat_abs x ≤ length) × SFits w32 x
  place (pos n) h k = let m = leb→le n length k.le in (refl, m, record { sfits = omega (arith, m) })
  place (negsuc n) h k = absurd h.le

pub place_unsigned : (x : ℤ) → pos 0 ≤ℤ x → SFits w32 x → T (non_neg x) × Fits w64 (nat_abs x)
place_unsigned (pos n) h f = (tt, record { fits = omega (arith, f.sfits) })
place_unsigned (negsuc n) h f = absurd h.le

pub unsigned64 : (z : ℤ) → lt_z z (pos 0) ≡ false → SFits w64 z → T (non_neg z) × Fits w64 (nat_abs z)
unsigned64 (pos n) e f = (tt, record { fits = omega (arith, f.sfits) })
unsigned64 (negsuc n) e f = absurd (true≢false e)

-- a length within 500 m fits
pub length32 : (z : ℤ) → nat_abs z ≤ 500000 → SFits w32 z
length32 z h = let s : Small 500000 z = record { size = h } in fits32 s (lit< tt)

-- the cut by the code's test
pub cut_above : (z : ℤ) → lt_z (pos 1000) z ≡ true → cut z ≡ pos 1000
cut_above (pos n) e = rw (lt-leb n 1000 (ltb-true 1000 n e)) refl
cut_above (negsuc n) e = absurd (false≢true e)

pub cut_within : (z : ℤ) → lt_z (pos 1000) z ≡ false → cut z ≡ z
cut_within (pos n) e = rw (le-leb n 1000 (ltb-false 1000 n e)) refl
cut_within (negsuc n) e = refl
