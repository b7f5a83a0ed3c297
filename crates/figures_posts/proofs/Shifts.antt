-- A shift rounds down: with the divisor less one added before, it rounds up, and so it does in size where nothing is added below zero.
use Prim.Native.Nat.{ℕ, suc, ◌+◌, ◌*◌, ◌-◌, ◌/◌, ◌^◌}
use mathlib.Core.Bool.{Bool, true, false, cond}
use mathlib.Core.Path.{◌≡◌, refl, ap}
use native.Mathlib.Omega.{arith}
use borrow.Author.Tests.{ltb-true, ltb-false}
use lib.Dec.{ltb}
use lib.IntN.{ℤ, pos, negsuc, nat_abs, neg_ℤ, ◌+ℤ◌}
use lib.Signed.{shr_z}
use Rattle.arith.specs.Inner.Rounding.{rounded_up, rounded_up_z}
use Rattle.arith.specs.Inner.Sizes.{Small}
use Rattle.arith.proofs.Sizes.{nat_abs_neg}
use Rattle.springs.specs.Inner.Balance.{most_force}
use Rattle.statics.specs.Inner.WholeNumbers.{racking_pad, racking_figure}
use Rattle.figures_posts.specs.Inner.Posts.{outward_of}
use Rattle.arith.proofs.SignedWords.{not_below_lem}

-- below zero, by whether the sum is below zero too
below_by :
    (n : ℕ) (less : Bool) →
    ltb 262143 (suc n) ≡ less →
    shr_z (cond less (negsuc (suc n - 262144)) (pos (262143 - suc n))) 262144 ≡ neg_ℤ (pos (suc n / 262144))
below_by n true e =
    let h = ltb-true 262143 (suc n) e in
    let q : suc n / 262144 ≡ suc ((suc n - 262144) / 262144) = omega arith in
    rw q
below_by n false e =
    let h = ltb-false 262143 (suc n) e in
    let q : suc n / 262144 ≡ 0 = omega arith in
    rw q (ap pos (omega arith))

pub shifted : (m : ℤ) → shr_z (m +ℤ pos 262143) 262144 ≡ rounded_up_z m 262144
unfolding rounded_up_z
shifted (pos n) = refl
shifted (negsuc n) = below_by n (ltb 262143 (suc n)) refl

-- the size of what is rounded up
pub rounded_small : (m : ℤ) → Small (nat_abs m / 262144 + 1) (rounded_up_z m 262144)
unfolding rounded_up_z
rounded_small (pos n) = record { size = omega arith }
rounded_small (negsuc n) = record { size = rw (nat_abs_neg (pos (suc n / 262144))) (omega arith) }

-- a racking, padded, is rounded up in size
from_zero : (n : ℕ) (less : Bool) → ltb n 0 ≡ less → shr_z (pos n +ℤ cond less (neg_ℤ (pos racking_pad)) (pos (racking_pad + 262143))) 262144
    ≡ pos (rounded_up (n + racking_pad) 262144)
from_zero n true e = absurd (not_below_lem n e)
from_zero n false e = ap pos (omega arith)

pub racking_shifted : (z : ℤ) → shr_z (z +ℤ outward_of z) 262144 ≡ racking_figure z
unfolding racking_figure
racking_shifted (pos n) = from_zero n (ltb n 0) refl
racking_shifted (negsuc n) =
    let q : rounded_up (suc n + racking_pad) 262144 ≡ suc ((n + racking_pad) / 262144) = omega arith in
    rw q (ap negsuc (omega arith))

pub racking_figure_small : (z : ℤ) → Small (2 ^ 45) z → Small (2 ^ 30) (racking_figure z)
unfolding racking_figure
racking_figure_small (pos n) s = record { size = omega (arith, s.size) }
racking_figure_small (negsuc n) s =
    record { size = rw (nat_abs_neg (pos (rounded_up (suc n + racking_pad) 262144))) (omega (arith, s.size)) }

-- the size of what is rounded down
pub shifted_small : (z : ℤ) → Small (2 * most_force) z → Small (2 ^ 45) (shr_z z 1024)
shifted_small (pos n) s = record { size = omega (arith, s.size) }
shifted_small (negsuc n) s = record { size = omega (arith, s.size) }
