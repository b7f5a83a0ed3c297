-- Document 02, P5: side walls under pitching. Exact forces as fractions in N, shifts in mm, and what is reported of them. Given are a
-- sheet t and the bytes p of a second short sheet; tiers are counted from 0, bottom first. No lashing, wind or route factor enters.
use Rattle.std.specs.Prelude.{ℕ, zero, suc, ◌+◌, ◌-◌, ◌*◌, Bool, false, cond, ◌||◌, List, [], ◌∷◌, ◌++◌, nat_abs}
use Rattle.arith.specs.Bytes.{byte_at, le2, bytes4}
use Rattle.arith.specs.Fractions.{Frac, nat, ◌+q◌, ◌*q◌, ◌/q◌, sumq}
use Rattle.arith.specs.Lists.{from, below, counted}
use Rattle.arith.specs.Wholes.{ceiling}
use Rattle.sheet.specs.declared.Sheet.{Sheet}
use Rattle.sheet.specs.Layout.{◌above◌}
use Rattle.sheet.specs.Fits.{tier_at}
use Rattle.statics.specs.Loads.{half, thousandths, weight, share_of}

-- the short sheet: a tier count, then a 2-byte A_L (thousandths of g) for each tier
abbrev pub pitch_count : List ℕ → ℕ
pitch_count p = byte_at p 0

abbrev pub longitudinal : List ℕ → ℕ → ℕ
longitudinal p i = le2 p (1 + 2 * i)

-- per side wall, F_L = 0.5 × W × A_L (CR 5.2.7(b))
unfoldable pub side_force : Sheet → List ℕ → ℕ → Frac
side_force t p i = half *q weight (tier_at t.tiers i) *q thousandths (longitudinal p i)

-- the tiers above tier i
abbrev pub tiers_above : Sheet → ℕ → List ℕ
tiers_above t i = from (suc i) (t.ntiers - suc i)

-- with 45% across the top of its own tier and all of it for tiers below (CR 5.2.7(b)): the racking of tier i. By the rule number: side
-- walls follow it too (P10), so that by rule 2 it is half
unfoldable pub side_racking : Sheet → List ℕ → ℕ → Frac
side_racking t p i = share_of t.head.rule *q side_force t p i +q sumq (side_force t p) (tiers_above t i)

-- the shift of each level, at 5,790 N/mm a tier (CR Table 2-4): level 0 is the deck, and over a tier the shift grows by its racking's
unfoldable pub side_shift : Sheet → List ℕ → ℕ → Frac
side_shift t p zero = nat 0
side_shift t p (suc i) = side_shift t p i +q side_racking t p i /q nat 5790

-- racking is reported as the least whole newton not below the exact, the shift of each level, the top of tier i, as the least whole
-- thousandth of a millimetre not below the exact. No exact one is below zero (Theorems)
unfoldable pub reported_racking : Sheet → List ℕ → ℕ → ℕ
reported_racking t p i = nat_abs (ceiling (side_racking t p i))

unfoldable pub reported_shift : Sheet → List ℕ → ℕ → ℕ
reported_shift t p i = nat_abs (ceiling (nat 1000 *q side_shift t p (suc i)))

-- limit 125,000 N (CR Table 2-3, side wall)
abbrev pub side_limit : ℕ
side_limit = 125000

-- the verdict is 0 exactly when no reported racking exceeds it, else 1
unfoldable pub any_of : (ℕ → Bool) → List ℕ → Bool
any_of holds [] = false
any_of holds (i ∷ rest) = holds i || any_of holds rest

unfoldable pub side_verdict : Sheet → List ℕ → ℕ
side_verdict t p = cond (any_of (λ i. reported_racking t p i above side_limit) (below t.ntiers)) 1 0

-- the side answer: a verdict byte, the tier count, then 4-byte racking and 4-byte shift a tier
unfoldable pub side_bytes : Sheet → List ℕ → List ℕ
side_bytes t p =
    (side_verdict t p ∷ []) ++ counted t.ntiers (λ i. bytes4 (reported_racking t p i) ++ bytes4 (reported_shift t p i))
