-- The bytes of a sheet s with a choice c of the lashes of a section g at both ends.
use Rattle.std.specs.Prelude.{ℕ, ◌<◌, length, take, drop}
use mathlib.Core.List.{List, ◌∷◌, ◌++◌, flat_map}
use Rattle.arith.specs.Bytes.{byte_at}
use Rattle.arith.specs.Lists.{below}
use Rattle.choices.specs.Choices.{chosen}
use Rattle.sheet.specs.Layout.{lash_place, door_place}
use Rattle.gear.specs.Gear.{gear_count}

-- numbers of one byte each
abbrev pub InBytes : List ℕ → Type 0
InBytes s = (i : ℕ) → byte_at s i < 256

-- lash k of a section, as its 20 bytes stand there
abbrev pub lash_slice : List ℕ → ℕ → List ℕ
lash_slice g k = take 20 (drop (lash_place 0 k) g)

-- an end: the count of the lashes that are chosen, then their bytes
abbrev pub chosen_end : List ℕ → ℕ → List ℕ
chosen_end g c = length (chosen c (below (gear_count g))) ∷ flat_map (lash_slice g) (chosen c (below (gear_count g)))

-- the sheet's bytes up to the door end's count, then both ends
unfoldable pub bytes_with : List ℕ → List ℕ → ℕ → List ℕ
bytes_with s g c = take (door_place s) s ++ (chosen_end g c ++ chosen_end g c)
