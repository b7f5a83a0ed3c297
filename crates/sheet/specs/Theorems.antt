-- What is proved of every sheet.
use Rattle.std.specs.Prelude.{Ok, ℕ, ◌<◌, true, List, ◌≡◌, take}
use Rattle.arith.specs.Bytes.{byte_at}
use Rattle.sheet.specs.declared.Tier.{Tier}
use Rattle.sheet.specs.declared.Sheet.{Sheet}
use Rattle.sheet.specs.Layout.{wind_code, exposed, turned, tier_fits}
use Rattle.sheet.specs.Refusals.{decoded}
use Rattle.sheet.specs.Fits.{Fits, Padded}
use Rattle.sheet.specs.Written.{written}

-- a taken sheet is within the limits (proofs/TakenSheets)
abbrev pub TakenWithinLimits : Type 0
TakenWithinLimits = (s : List ℕ) (t : Sheet) → decoded s ≡ Ok t → Fits t × Padded t

-- only the first 452 bytes decide (proofs/FirstBytes)
abbrev pub FirstBytesDecide : Type 0
FirstBytesDecide = (s : List ℕ) → decoded (take 452 s) ≡ decoded s

-- every sheet within the limits can be written: numbers of one byte each, which are taken and hold it (proofs/RoundTrip, WrittenBytes)
abbrev pub EachWritten : Type 0
EachWritten = (t : Sheet) → Fits t → Padded t → decoded (written t) ≡ Ok t

abbrev pub WrittenInBytes : Type 0
WrittenInBytes = (t : Sheet) → Fits t → (i : ℕ) → byte_at (written t) i < 256

-- the wind byte of a tier within the limits is the code of what its two tests say (proofs/Limits)
abbrev pub WindCodes : Type 0
WindCodes = (t : Tier) → tier_fits t ≡ true → t.wind ≡ wind_code (exposed t) (turned t)
