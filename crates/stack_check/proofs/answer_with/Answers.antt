-- `stack_check::answer_with`: the answer to what the sheet holds with these tiers.
use mathlib.Core.Path.{sym, subst}
use Rattle.sheet.specs.Fits.{Fits}
use Rattle.stack_check.proofs.answer_with.Goals as goal

pub answer_to-requires : goal.answer_to-requires
answer_to-requires c =
    let p = c.requires in
    (subst Fits (sym c.sheet_with.ensures) p.1, p.2, p.3)

pub returns : goal.returns
returns c =
    rw c.sheet_with.ensures at c.answer_to.ensures
