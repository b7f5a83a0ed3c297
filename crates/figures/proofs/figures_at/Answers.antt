-- `figures::figures_at`: the lashes' figures, then the levels', are those of an end (EndLaws).
use mathlib.Core.Path.{◌≡◌}
use native.Mathlib.Omega.{arith}
use lib.ListN.{length, take}
use lib.Seq.{length-take-le}
use Rattle.figures.proofs.EndLaws.{end_named}
use Rattle.figures.proofs.figures_at.Goals as goal

pub returns : goal.returns
returns c =
    let p = c.requires.workable in
    let counted : length (take c.args.m c.args.lashes) ≡ c.args.m = length-take-le c.args.m c.args.lashes (omega (arith, p.few_lashes)) in
    let found = c.lash_figures.ensures in
    λ ts w fits. end_named p counted found.lashes_figured.0 found.verticals_on found.verticals_on_2
    c.level_figures.ensures.levels_figured w fits
