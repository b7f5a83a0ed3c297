-- Signed numbers cut off at zero.
use mathlib.Core.Bool.{true, false, true≢false}
use mathlib.Core.Path.{◌≡◌, refl}
use lib.IntN.{ℤ, pos, negsuc, nat_abs}
use lib.Signed.{lt_z}
use Rattle.arith.proofs.SignedWords.{not_below_lem}
use Rattle.statics.specs.Inner.WholeNumbers.{not_below}

pub below_none : (z : ℤ) → lt_z z (pos 0) ≡ true → 0 ≡ not_below z
below_none (pos n) e = absurd (not_below_lem n e)
below_none (negsuc n) e = refl

pub from_all : (z : ℤ) → lt_z z (pos 0) ≡ false → nat_abs z ≡ not_below z
from_all (pos n) e = refl
from_all (negsuc n) e = absurd (true≢false e)
