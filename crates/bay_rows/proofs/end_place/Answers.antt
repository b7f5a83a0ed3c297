-- `bay_rows::end_place`: after k turns the place of row k.
use mathlib.Core.Path.{sym, ap, ◌∙◌}
use native.Mathlib.Omega.{arith}
use borrow.Author.Rules.{rules}
use Rattle.bay_rows.specs.Bay.{row_place}
use Rattle.bay_rows.proofs.Places.{place_first, next_is}
use Rattle.bay_rows.proofs.end_place.Goals as goal

pub loop-init : goal.loop-init
loop-init c = (sym (place_first _), search rules)

pub loop-preserved : goal.loop-preserved
loop-preserved c =
    let e = c.next_place-at.ensures in
    (next_is _ c.loop.counter c.loop.invariant.0 e.0, omega (arith, c.loop.invariant.1, e.1))

pub returns : goal.returns
returns c = c.loop.invariant.0 ∙ ap (row_place _) (omega arith)
