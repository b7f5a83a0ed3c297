-- `bay_wind::nearest_to_starboard`: the rows not yet passed give what all rows to starboard give (Sides).
use mathlib.Core.Path.{refl, sym, ◌∙◌}
use Rattle.bay_wind.proofs.Sides.{starboard_loaded, starboard_empty, starboard_none}
use Rattle.bay_wind.proofs.nearest_to_starboard.Goals as goal

pub loop-j-init : goal.loop-j-init
loop-j-init c = refl

pub returns-then-row-ne0 : goal.returns-then-row-ne0
returns-then-row-ne0 c =
    sym (starboard_loaded c.args.rows.now c.loop-j.j c.loop-j-test.true c.if-row-ne0.true) ∙ c.loop-j.invariant

pub loop-j-preserved : goal.loop-j-preserved
loop-j-preserved c =
    sym (starboard_empty c.args.rows.now c.loop-j.j c.loop-j-test.true c.if-row-ne0.false) ∙ c.loop-j.invariant

pub returns : goal.returns
returns c = sym (starboard_none c.args.rows.now c.loop-j.j c.loop-j-test.false) ∙ c.loop-j.invariant
