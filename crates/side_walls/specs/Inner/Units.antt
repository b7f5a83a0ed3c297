-- Rackings and shifts in whole numbers, which the code computes: rackings in parts of 1 / 4,000,000 N, shifts in parts of
-- 1 / 23,160,000 of a thousandth of a millimetre. Nothing here need be believed.
use Rattle.std.specs.Prelude.{ℕ, zero, suc, ◌+◌, ◌*◌, ◌<◌, ◌≤◌, ◌^◌, List, [], ◌∷◌, ◌≡◌, get_or, length}
use Rattle.arith.specs.Inner.Rounding.{rounded_up}
use Rattle.sheet.specs.declared.Sheet.{Sheet}
use Rattle.sheet.specs.Fits.{tier_at}
use Rattle.statics.specs.Inner.Computed.{share_twentieths}
use Rattle.side_walls.specs.SideWalls.{longitudinal, tiers_above, reported_racking, reported_shift}

-- the sum of f over a list
unfoldable pub total : (ℕ → ℕ) → List ℕ → ℕ
total f [] = 0
total f (i ∷ rest) = f i + total f rest

-- mass × A_L of tier i, and of the tiers above it together
abbrev pub push_units : Sheet → List ℕ → ℕ → ℕ
push_units t p i = (tier_at t.tiers i).mass * longitudinal p i

abbrev pub above_units : Sheet → List ℕ → ℕ → ℕ
above_units t p i = total (push_units t p) (tiers_above t i)

-- the racking of tier i, and the sum of those of the first i tiers
unfoldable pub racking_units : Sheet → List ℕ → ℕ → ℕ
racking_units t p i = 981 * (share_twentieths t.head.rule * push_units t p i + 20 * above_units t p i)

unfoldable pub shift_units : Sheet → List ℕ → ℕ → ℕ
shift_units t p zero = 0
shift_units t p (suc i) = shift_units t p i + racking_units t p i

-- a short sheet that is as long as a stack of n tiers needs, none of whose A_L is above 1,500
pub record Pitched (n : ℕ) (p : List ℕ) : Type 0 where
  pub long : length p ≡ 1 + 2 * n
  pub small : (i : ℕ) → i < n → longitudinal p i ≤ 1500

-- rackings in units, of every tier of the stack
pub record Pushed (t : Sheet) (p units : List ℕ) : Type 0 where
  pub each : (i : ℕ) → i < t.ntiers → get_or units i 0 ≡ racking_units t p i
  pub small : (i : ℕ) → i < t.ntiers → get_or units i 0 ≤ 2 ^ 44

-- the sum of the first i of a list
unfoldable pub first_sum : List ℕ → ℕ → ℕ
first_sum units zero = 0
first_sum units (suc i) = first_sum units i + get_or units i 0

-- n rackings in units and the sums up to them, rounded up to N and to thousandths of a millimetre; all fit 4 bytes
pub record RoundedUp (n : ℕ) (units racking shift : List ℕ) : Type 0 where
  pub rackings : (i : ℕ) → i < n → get_or racking i 0 ≡ rounded_up (get_or units i 0) 4000000
  pub shifts : (i : ℕ) → i < n → get_or shift i 0 ≡ rounded_up (first_sum units (suc i)) 23160000
  pub racking_fits : (i : ℕ) → i < n → get_or racking i 0 < 2 ^ 32
  pub shift_fits : (i : ℕ) → i < n → get_or shift i 0 < 2 ^ 32

-- the figures of every tier and of the level over it
pub record SideFigured (t : Sheet) (p racking shift : List ℕ) : Type 0 where
  pub rackings : (i : ℕ) → i < t.ntiers → get_or racking i 0 ≡ reported_racking t p i
  pub shifts : (i : ℕ) → i < t.ntiers → get_or shift i 0 ≡ reported_shift t p i
  pub racking_fits : (i : ℕ) → i < t.ntiers → get_or racking i 0 < 2 ^ 32
  pub shift_fits : (i : ℕ) → i < t.ntiers → get_or shift i 0 < 2 ^ 32
