-- The two ends of a stack, its tiers, and the lashes of an end.
use Rattle.std.specs.Prelude.{List, take}
use Rattle.sheet.specs.declared.Tier.{Tier}
use Rattle.sheet.specs.declared.Lash.{Lash}
use Rattle.sheet.specs.declared.Sheet.{Sheet}

pub data End : Type 0 where
  door : End
  closed : End

-- the tiers of a sheet, bottom first, and the lashes of an end, in sheet order
abbrev pub tiers_of : Sheet → List Tier
tiers_of t = take t.ntiers t.tiers

abbrev pub lashes_of : End → Sheet → List Lash
lashes_of door t = take t.ndoor t.door
lashes_of closed t = take t.nclosed t.closed
