-- Document 02, P5: what a second short sheet p is turned back for.
use Rattle.std.specs.Prelude.{ℕ, suc, ◌+◌, ◌*◌, not, ◌||◌, length}
use mathlib.Core.List.{List, [], ◌∷◌, flat_map}
use Rattle.arith.specs.Lists.{below}
use Rattle.sheet.specs.Layout.{◌is◌, ◌above◌}
use Rattle.sheet.specs.Refusals.{Row, row}
use Rattle.side_walls.specs.SideWalls.{pitch_count, longitudinal}

-- 14, 0: a short sheet of the wrong length or count, for a stack of n tiers
abbrev pub row14 : ℕ → List ℕ → Row
row14 n p = row 14 0 (not (length p is 1 + 2 * n) || not (pitch_count p is n))

-- 15, its tier: an A_L above 1,500; tiers are counted from 0 here, and from 1 in what is returned
abbrev pub row15 : List ℕ → ℕ → Row
row15 p i = row 15 (suc i) (longitudinal p i above 1500)

-- 14, then 15 for the first such tier
abbrev pub pitch_rows : ℕ → List ℕ → List Row
pitch_rows n p = row14 n p ∷ flat_map (λ i. row15 p i ∷ []) (below n)
