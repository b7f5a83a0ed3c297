-- `bay_rows::test_row`: an empty row has no refusal.
use mathlib.Core.Path.{sym, ◌∙◌}
use Rattle.bay_rows.proofs.Readings.{empty_reading, loaded_reading}
use Rattle.bay_rows.proofs.test_row.Goals as goal

pub returns-then-row-eq0 : goal.returns-then-row-eq0
returns-then-row-eq0 c = sym (empty_reading c.args.row.now c.if-row-eq0.true)

pub returns : goal.returns
returns c = c.test_sheet.ensures ∙ sym (loaded_reading c.args.row.now c.if-row-eq0.false)
