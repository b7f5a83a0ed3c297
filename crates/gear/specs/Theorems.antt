-- What is proved of a taken gear section.
use Rattle.std.specs.Prelude.{Ok, ℕ, List, ◌≡◌}
use Rattle.choices.specs.Choices.{chosen}
use Rattle.sheet.specs.declared.Lash.{Lash}
use Rattle.sheet.specs.declared.Sheet.{Sheet}
use Rattle.sheet.specs.Ends.{End, lashes_of}
use Rattle.sheet.specs.Fits.{Fits, Padded}
use Rattle.sheet.specs.Layout.{tier_count, sheet_of}
use Rattle.sheet.specs.Refusals.{first, sheet_rows, decoded}
use Rattle.sheet.specs.Written.{written}
use Rattle.gear.specs.Gear.{gear_lashes, gear_rows, with_lashes}
use Rattle.gear.specs.Bytes.{InBytes, bytes_with}

-- the lashes of either end are those that are put there (proofs/Subsets)
abbrev pub AlikeAtBothEnds : Type 0
AlikeAtBothEnds = (t : Sheet) (ls : List Lash) (e : End) → lashes_of e (with_lashes ls t) ≡ ls

-- no choice is refused: lashes chosen from a section in order are in order, so that a sheet within the limits stays so with them at both
-- ends (proofs/Subsets)
abbrev pub NoChoiceRefused : Type 0
NoChoiceRefused =
    (t : Sheet) (g : List ℕ) (c : ℕ) →
    Fits t →
    first (gear_rows t.ntiers g) ≡ Ok tt →
    Fits (with_lashes (chosen c (gear_lashes g)) t)

-- and there is a sheet of bytes that holds it, which is taken (proofs/Subsets)
abbrev pub EachChoiceWritten : Type 0
EachChoiceWritten =
    (t : Sheet) (g : List ℕ) (c : ℕ) →
    Fits t →
    Padded t →
    first (gear_rows t.ntiers g) ≡ Ok tt →
    decoded (written (with_lashes (chosen c (gear_lashes g)) t))
    ≡ Ok (with_lashes (chosen c (gear_lashes g)) t)

-- so do the sheet's own bytes with those of the choice at both ends (proofs/ChoiceInBytes)
abbrev pub ChoiceInBytes : Type 0
ChoiceInBytes =
    (s g : List ℕ) (c : ℕ) →
    InBytes s →
    InBytes g →
    first (sheet_rows s) ≡ Ok tt →
    first (gear_rows (tier_count s) g) ≡ Ok tt →
    decoded (bytes_with s g c) ≡ Ok (with_lashes (chosen c (gear_lashes g)) (sheet_of s))

-- which are bytes (proofs/ChoiceInBytes)
abbrev pub WithInBytes : Type 0
WithInBytes =
    (s g : List ℕ) (c n : ℕ) → InBytes s → InBytes g → first (gear_rows n g) ≡ Ok tt → InBytes (bytes_with s g c)
