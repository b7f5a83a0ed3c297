-- What the steps of the call say; nothing here need be believed.
use Rattle.std.specs.Prelude.{ℕ, List, [], ◌∷◌, ◌++◌}
use Rattle.sheet.specs.declared.Sheet.{Sheet}
use Rattle.sheet.specs.Refusals.{Reading, row13, first}
use Rattle.answer.specs.Outcomes.{Outcome}
use Rattle.side_walls.specs.SideWalls.{side_bytes}
use Rattle.side_parts.specs.ShortSheets.{pitch_rows}
use Rattle.side.specs.Sides.{longest_side, SidedAs}

-- what a taken sheet of n tiers may still be turned back for; what is left of it once the short sheet is taken too
abbrev pub own_reading : ℕ → List ℕ → ℕ → Reading
own_reading n p room = first (pitch_rows n p ++ (row13 longest_side room ∷ []))

abbrev pub room_reading : ℕ → Reading
room_reading room = first (row13 longest_side room ∷ [])

-- the answer to a decoded sheet, by a refusal
pub record Settled (q : Reading) (t : Sheet) (p before after : List ℕ) (r : Outcome) : Type 0 where
  pub holds : SidedAs q (side_bytes t p) before after r
