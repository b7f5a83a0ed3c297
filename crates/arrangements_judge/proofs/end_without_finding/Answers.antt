-- `arrangements_judge::end_without_finding`: the end's figures at its shifts, and whether they give no finding.
use Prim.Native.Nat.{ℕ}
use mathlib.Core.List.{List}
use mathlib.Core.Path.{sym, subst, ap, ◌∙◌}
use native.Mathlib.Omega.{arith}
use lib.ListN.{take}
use Rattle.springs.specs.Inner.Elimination.{solved}
use Rattle.statics.specs.declared.EndFigures.{EndFigures}
use Rattle.statics.specs.Reported.{Fitting}
use Rattle.statics.specs.Inner.Computed.{figures_at}
use Rattle.end_verdict.specs.Inner.NoneOver.{none_found}
use Rattle.arrangements_judge.proofs.EndsJudged.{given_solvable}
use Rattle.arrangements_judge.proofs.end_without_finding.Goals as goal

pub invariant_of-chain : goal.invariant_of-chain
invariant_of-chain c =
    let few = c.requires.end_given.works.few in
    record { solvable = given_solvable c.requires.end_given; there = (omega (arith, few), omega (arith, few), omega (arith, few)) }

pub returns : goal.returns
returns c =
    let a = c.args in
    let s = a.stack.now in
    let n = s.sheet.ntiers in
    let g = a.g in
    let d =
    c.solve-d.ensures.named ∙ ap (λ (κ : List ℕ). solved n a.k.now κ s.tiers.loads) c.requires.end_given.levelled in
    λ ts w fits.
    let at = ap (λ (d : List ℕ). figures_at n a.k.now ts (take g.count g.lashes) d) d in
    c.no_finding.ensures
    ∙ ap (λ (c : EndFigures). none_found n s.pull g.lashes g.count c) (c.figures_at.ensures ts w (subst Fitting (sym at) fits) ∙ at)
