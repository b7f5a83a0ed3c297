-- `twenties::judge`: 22, then 23, then the verdict. Each return follows from the rows that passed before it.
use mathlib.Core.Bool.{not}
use mathlib.Core.Path.{ap, sym, ◌∙◌}
use native.Mathlib.Omega.{arith}
use borrow.Author.Rules.{part_to_end}
use Rattle.twenties.specs.Judgements.{verdict}
use Rattle.twenties.proofs.Outcomes.{refused_22, refused_23, given, ranges}
use Rattle.twenties.proofs.judge.Goals as goal

pub returns-then-table-acceleration : goal.returns-then-table-acceleration
returns-then-table-acceleration c = let a = c.args in sym (refused_22 a.table a.acceleration a.masses.now c.if-table-acceleration.true)

pub returns-then-not-all_fit : goal.returns-then-not-all_fit
returns-then-not-all_fit c =
    let a = c.args in
    let unfit = ap not (sym c.all_fit.ensures ∙ c.if-not-all_fit.true) in
    sym (refused_23 a.table a.acceleration a.masses.now c.if-table-acceleration.false unfit)

pub total_of-total-requires : goal.total_of-total-requires
total_of-total-requires c =
    let a = c.args in
    omega (arith, (ranges a.table a.acceleration a.masses.now c.if-table-acceleration.false).3)

pub permitted_at-permitted-requires : goal.permitted_at-permitted-requires
permitted_at-permitted-requires c =
    let a = c.args in
    ranges a.table a.acceleration a.masses.now c.if-table-acceleration.false

pub returns : goal.returns
unfolding verdict
returns c =
    let a = c.args in
    let total = rw (part_to_end a.masses.now 1) at c.total_of-total.ensures in
    simp (total, c.permitted_at-permitted.ensures)
    (sym (given a.table a.acceleration a.masses.now
    c.if-table-acceleration.false
    (ap not (sym c.all_fit.ensures ∙ c.if-not-all_fit.false))))
