-- `figures::figures_by`: loads, heights and springs, and the figures of both ends from these (EndLaws).
use mathlib.Core.Path.{ap₂, ◌∙◌}
use Rattle.sheet.specs.Ends.{door, closed}
use Rattle.sheet.proofs.SheetLimits.{sheet_limits}
use Rattle.statics.proofs.EndChain.{exact_stands}
use Rattle.figures.specs.Inner.Ends.{end_figures}
use Rattle.figures.proofs.EndLaws.{workable, named_fits, both_ends}
use Rattle.figures.proofs.figures_by.Goals as goal

pub loads_of-requires-clause-by_index : goal.loads_of-requires-clause-by_index
loads_of-requires-clause-by_index c = (sheet_limits c.requires.fits.0).each

pub figures_loaded-requires-clause-door_workable : goal.figures_loaded-requires-clause-door_workable
figures_loaded-requires-clause-door_workable c =
    let p = c.requires.fits.0 in
    let e = c.loads_of.ensures in
    rw c.springs_of.ensures.0 (workable (sheet_limits p) door _ _ _ _ _ p.door.few e.0 e.1)

pub figures_loaded-requires-clause-closed_workable : goal.figures_loaded-requires-clause-closed_workable
figures_loaded-requires-clause-closed_workable c =
    let p = c.requires.fits.0 in
    let e = c.loads_of.ensures in
    rw c.springs_of.ensures.1 (workable (sheet_limits p) closed _ _ _ _ _ p.closed.few e.0 e.1)

pub figures_loaded-requires-clause-fitting : goal.figures_loaded-requires-clause-fitting
figures_loaded-requires-clause-fitting c =
    let limits = sheet_limits c.requires.fits.0 in
    let stands = exact_stands c.requires.fits.1 c.requires.fits.2 in
    let found = c.springs_of.ensures in
    let ω = c.loads_of.ensures.0.named in
    (named_fits limits door stands found.0 ω, named_fits limits closed stands found.1 ω)

pub returns : goal.returns
returns c =
    let t = c.args.s in
    let found = c.springs_of.ensures in
    let ω = c.loads_of.ensures.0.named in
    let e = c.figures_loaded.ensures in
    both_ends c.args.rule t (e.door_figures ∙ ap₂ (end_figures door t) found.0 ω) (e.closed_figures ∙ ap₂ (end_figures closed t) found.1 ω)
