-- Document 01: a lash is a cross lash on the lee corner or a side lash on the windward corner; the level of its hook, and its corner.
use Rattle.std.specs.Prelude.{ℕ, ◌-◌, Bool, cond}
use Rattle.sheet.specs.declared.Lash.{Lash}
use Rattle.sheet.specs.declared.Lashing.{Lashing}
use Rattle.sheet.specs.declared.Lashing.TheVariants.{Cross, Side}
use Rattle.sheet.specs.Layout.{◌is◌}

-- kind 0 is cross, 1 side
abbrev pub lashing_of : Lash → Lashing
lashing_of l = cond (l.kind is 0) (Cross l) (Side l)

-- level i is the top of tier i: a top hook (0) of tier i and a bottom hook (1) of tier i + 1 both lie at level i
unfoldable pub level_of : Lash → ℕ
level_of l = l.tier - l.hook

-- hooked to a bottom corner
abbrev pub at_bottom : Lash → Bool
at_bottom l = l.hook is 1
