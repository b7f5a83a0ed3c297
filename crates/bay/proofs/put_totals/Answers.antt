-- `bay::put_totals`: three stores, one behind another.
use mathlib.Core.Path.{ap, ◌∙◌}
use lib.Seq.{sets}
use Rattle.arith.specs.Bytes.{bytes4}
use Rattle.bay.proofs.put_totals.Goals as goal

pub returns : goal.returns
returns c =
    let totals = c.args.totals in
    c.write4-2.ensures
    ∙ ap (λ l. sets l 5 (bytes4 totals.racking)) c.write4.ensures
    ∙ ap (λ l. sets (sets l 1 (bytes4 totals.mass)) 5 (bytes4 totals.racking)) c.write1.ensures
