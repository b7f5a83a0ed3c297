-- `figures_tiers::box_length`, by the test of the size.
use borrow.Author.Tests.{eq-eqb, ne_eqb}
use lib.Dec.{lit≤}
use Rattle.statics.specs.Loads.{box_length}
use Rattle.figures_tiers.proofs.box_length.Goals as goal

pub returns-then-t-eq20 : goal.returns-then-t-eq20
unfolding box_length
returns-then-t-eq20 c = (simp (eq-eqb _ _ c.if-t-eq20.true), lit≤ tt)

pub returns : goal.returns
unfolding box_length
returns c = (simp (ne_eqb _ _ c.if-t-eq20.false), lit≤ tt)
