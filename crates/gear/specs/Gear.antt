-- Document 02, P13: the gear section, a count and its lashes; a sheet with lashes used alike at both ends.
use Rattle.std.specs.Prelude.{Result, ℕ, ◌||◌, List, [], ◌∷◌, map, length}
use Rattle.arith.specs.Bytes.{byte_at}
use Rattle.arith.specs.Lists.{below, padded}
use Rattle.sheet.specs.declared.Lash.{Lash}
use Rattle.sheet.specs.declared.Sheet.{Sheet}
use Rattle.sheet.specs.declared.Refusal.{Refusal}
use Rattle.sheet.specs.Layout.{lash_place, lash_in, blank_lash, ◌above◌}
use Rattle.sheet.specs.Refusals.{Row, row, row2, end_rows, first, ◌then◌, unless_refused}
use Rattle.gear.specs.declared.Gear.{Gear}

-- the section is laid out as an end of a sheet whose count stands at 0
abbrev pub gear_count : List ℕ → ℕ
gear_count g = byte_at g 0

abbrev pub gear_lashes : List ℕ → List Lash
gear_lashes g = map (lash_in g 0) (below (gear_count g))

-- 24, 0: a sheet that holds a lash
abbrev pub row24 : Sheet → Row
row24 t = row 24 0 (t.ndoor above 0 || t.nclosed above 0)

-- for a stack of n tiers 1 and 9 to 12 as at an end of a sheet, then 2, with lengths and offsets taken in the section
abbrev pub gear_rows : ℕ → List ℕ → List Row
gear_rows n g = end_rows n g 0 then row2 g (lash_place 0 (gear_count g)) ∷ []

-- a section decoded, where it is taken: its lashes
abbrev pub gear_of : List Lash → Gear
gear_of ls = record { lashes = padded 8 blank_lash ls; count = length ls }

unfoldable pub gear_decoded : ℕ → List ℕ → Result Gear Refusal
gear_decoded n g = unless_refused (first (gear_rows n g)) (gear_of (gear_lashes g))

-- the sheet with these lashes at both ends
abbrev pub with_lashes : List Lash → Sheet → Sheet
with_lashes ls t =
    record {
      head = t.head;
      tiers = t.tiers;
      ntiers = t.ntiers;
      door = padded 8 blank_lash ls;
      ndoor = length ls;
      closed = padded 8 blank_lash ls;
      nclosed = length ls;
    }
