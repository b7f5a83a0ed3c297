-- Document 02, P6: what a report takes from one row's answer.
use Rattle.std.specs.Prelude.{ℕ, cond, List, [], ◌∷◌, ◌++◌, nat_abs, length}
use Rattle.arith.specs.Bytes.{bytes2}
use Rattle.sheet.specs.declared.Sheet.{Sheet}
use Rattle.sheet.specs.Layout.{◌is◌}
use Rattle.sheet.specs.Ends.{End, door, closed}
use Rattle.sheet.specs.Fits.{tier_at}
use Rattle.statics.specs.Forces.{racking}
use Rattle.answer.specs.Places.{force_in}
use Rattle.bay_wind.specs.Sums.{sum_of, larger, greatest_of}

-- its 2-byte answer length and answer; that of an empty row has no bytes
abbrev pub row_bytes : List ℕ → List ℕ
row_bytes answer = bytes2 (length answer) ++ answer

-- 1 for an accepted loaded row, whose verdict byte is 0
unfoldable pub accepted_in : List ℕ → ℕ
accepted_in [] = 0
accepted_in (verdict ∷ rest) = cond (verdict is 0) 1 0

-- the mass in kg
unfoldable pub mass_of : Sheet → ℕ
mass_of t = sum_of (λ k. (tier_at t.tiers k).mass) t.ntiers

-- the greatest reported racking in size, at an end and at both
abbrev pub end_racking : Sheet → List ℕ → End → ℕ
end_racking t answer e = greatest_of (λ i. nat_abs (force_in t e answer racking i)) t.ntiers

unfoldable pub racking_in : Sheet → List ℕ → ℕ
racking_in t answer = larger (end_racking t answer door) (end_racking t answer closed)
