-- `twenties::all_fit`: std's `all` of the test of one box.
use mathlib.Core.Path.{◌∙◌}
use Rattle.std.proofs.Common.{rules, tests}
use Rattle.std.proofs.lemmas.Iterator.{YieldsList-from_slice}
use Rattle.std.proofs.lemmas.Iterator.Search.{all_from_yields_List}
use Rattle.sheet.specs.Layout.{within}
use Rattle.twenties.proofs.Masses.{fit_all}
use Rattle.twenties.proofs.all_fit.Goals as goal

pub returns : goal.returns
returns c =
    all_from_yields_List (within 1 30480) _ _ _ c.all.ensures.ran (YieldsList-from_slice c.args.masses.now cc) (λ x b q k. search (rules, tests))
    ∙ fit_all c.args.masses.now
