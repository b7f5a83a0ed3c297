-- Document 02, P7: preview of a move. Given a stack sheet free of faults, a tier number and a new 2-byte mass, the preview returns and
-- writes what the check would on a copy of the sheet with that mass put in.
use Rattle.std.specs.Prelude.{Ok, Err, ℕ, ◌+◌, ◌-◌, ◌||◌, List, [], ◌∷◌, ◌++◌, take, drop}
use Rattle.arith.specs.Bytes.{bytes2}
use Rattle.sheet.specs.Refusals.{Reading}
use Rattle.sheet.specs.Layout.{tier_count, tier_place, ◌is◌, ◌above◌}
use Rattle.sheet.specs.Refusals.{Row, row, ◌then◌, sheet_rows, first}
use Rattle.answer.specs.Outcomes.{Outcome}
use Rattle.answer.specs.Checked.{TurnedBack, Checked}

-- the copy: the two bytes of the tier's mass, the fifth and sixth of its entry, are the new mass; tiers are counted from 1 here
abbrev pub mass_place : ℕ → ℕ
mass_place tier = tier_place (tier - 1) + 4

unfoldable pub with_mass : ℕ → ℕ → List ℕ → List ℕ
with_mass tier mass s = take (mass_place tier) s ++ (bytes2 mass ++ drop (mass_place tier + 2) s)

-- 17, the tier: a tier that the stack does not have
abbrev pub row17 : List ℕ → ℕ → Row
row17 s tier = row 17 tier (tier is 0 || tier above tier_count s)

-- a sheet with a fault gets that refusal first, even where the new mass would mend it; 17 after these, before the new mass is looked at
unfoldable pub move_refusal : List ℕ → ℕ → Reading
move_refusal s tier = first (sheet_rows s then row17 s tier ∷ [])

-- turned back with the buffer as it was; or else what is said of the copy holds
abbrev pub UnlessTurnedBack : Reading → List ℕ → List ℕ → Outcome → Type 0 → Type 0
UnlessTurnedBack (Err why) before after r said = TurnedBack why before after r
UnlessTurnedBack (Ok _) before after r said = said

-- the preview of the sheet s with a buffer that held `before`: the check of the copy
pub record Previewed (margin : ℕ) (s : List ℕ) (tier mass : ℕ) (before after : List ℕ) (r : Outcome) : Type 0 where
  pub holds : UnlessTurnedBack (move_refusal s tier) before after r (Checked margin (with_mass tier mass s) before after r)
