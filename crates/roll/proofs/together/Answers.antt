-- `roll::together`: the parts are those of the exact sum, so the thousandths are those that it rounds up to.
use mathlib.Core.Path.{sym}
use Rattle.roll.proofs.Exact.{sum_rounded}
use Rattle.roll.proofs.together.Goals as goal

pub returns : goal.returns
returns c D h =
    let a = c.args in
    let k = c.k3_of in
    let exact = sum_rounded a.given c.requires.0 a.trig k.result a.distance D k.ensures.0 h in
    simp (c.rounded_up.ensures, c.roll_at.ensures.0, c.still_part-still.ensures.0) (sym exact)
