-- `figures_posts::outward`: by the sign.
use mathlib.Core.Path.{refl}
use lib.Dec.{lit≤}
use mir.Syntax.{w64}
use mir.ValLaws.{to_z-of_z}
use Rattle.figures_posts.proofs.outward.Goals as goal

pub returns-then-part-lt0 : goal.returns-then-part-lt0
returns-then-part-lt0 c = rw (simp (to_z-of_z w64 c.args.part c.ranges.part) at c.if-part-lt0.true) (refl, record { size = lit≤ tt })

pub returns : goal.returns
returns c = rw (simp (to_z-of_z w64 c.args.part c.ranges.part) at c.if-part-lt0.false) (refl, record { size = lit≤ tt })
