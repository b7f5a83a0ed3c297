-- `answer_put::put_where` stores the word; the place behind it counts it or not.
use native.Mathlib.Omega.{arith}
use Rattle.answer_put.proofs.Puts.{small, stored_where}
use Rattle.answer_put.proofs.put_where.Goals as goal

pub returns-clause-put : goal.returns-clause-put
returns-clause-put c =
    let a = c.args in
    (stored_where _ a.at _ _ _ c.requires.0 c.ranges.end.fits c.ranges.kind.fits c.requires.1 a.over, omega (arith, small a.over))
