-- `end_verdict::no_finding`: no kind has a size over its limit.
use native.Mathlib.Omega.{arith}
use Rattle.answer.specs.Limits.{lash_vertical_limit}
use Rattle.statics.specs.Inner.InArrays.{end_in}
use Rattle.end_verdict.proofs.NoneFound.{kinds_kept, rest_kept}
use Rattle.end_verdict.proofs.no_finding.Goals as goal

pub returns : goal.returns
returns c =
    let a = c.args in
    kinds_kept a.n a.pull a.lashes a.m (end_in a.figures.now)
    c.rackings_kept.ensures
    c.all_kept.ensures
    (rest_kept 11 10 a.figures.now.levels (λ i. a.pull.limit) 0 a.n (omega arith) c.all_kept-2.ensures)
    c.pulls_kept.ensures
    (rest_kept 16 8 a.figures.now.forces (λ j. lash_vertical_limit) 0 a.m (omega arith) c.all_kept-3.ensures)
    c.all_kept-4.ensures
