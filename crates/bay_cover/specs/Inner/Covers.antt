-- Contracts of inner functions; nothing here need be believed.
use Rattle.std.specs.Prelude.{min, Option, None, Some, ℕ, ◌+◌, ◌*◌, Bool, cond, ◌&&◌, ◌||◌, leb, ltb}
use Rattle.sheet.specs.Layout.{◌is◌}
use Rattle.bay_wind.specs.declared.Outline.{Outline}
use Rattle.bay_wind.specs.declared.Nearest.{Nearest}
use Rattle.bay_wind.specs.declared.Neighbours.{Neighbours}

-- up to which height a row covers boxes of this size, on one side and on both: 0 where they are exposed fully
unfoldable pub cover_above : ℕ → ℕ → Outline → ℕ
cover_above size between row = cond (leb 3 between || size is 40 && row.size is 20) 0 row.height

abbrev pub cover_beside : ℕ → Option Nearest → ℕ
cover_beside size None = 0
cover_beside size (Some near) = cover_above size near.between near.row

abbrev pub cover_of : ℕ → Neighbours → ℕ
cover_of size near = min (cover_beside size near.port) (cover_beside size near.starboard)

-- more than one third of a box's height shows above what is covered
abbrev pub shown_above : ℕ → ℕ → ℕ → Bool
shown_above cover height top = ltb (height + 3 * cover) (3 * top)
