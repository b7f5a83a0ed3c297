-- Contracts of inner functions: one lash, its vertical part and its corner. Nothing here need be believed.
use Rattle.std.specs.Prelude.{ℕ, ◌+◌, ◌*◌, ◌-◌}
use Rattle.sheet.specs.declared.Lash.{Lash}
use Rattle.sheet.specs.declared.Lashing.{Lashing}
use Rattle.sheet.specs.declared.Lashing.TheVariants.{Cross, Side}
use Rattle.statics.specs.Inner.WholeNumbers.{inverse, along, along_middle}

-- the lash that a cross or a side lash carries, and the vertical part of a lash from its athwart part
abbrev pub carried_lash : Lashing → Lash
carried_lash (Cross l) = l
carried_lash (Side l) = l

abbrev pub vertical_from : ℕ → Lash → ℕ
vertical_from part l = along part l.lz (inverse l.ly) + along_middle

-- corners counted from the deck up: the bottom corner of tier i is 2 i − 1 and its top corner 2 i. At level i, 2 i is the top corner of the
-- lower box and 2 i + 1 the bottom corner of the upper box
unfoldable pub corner_of : Lash → ℕ
corner_of l = 2 * l.tier - l.hook
