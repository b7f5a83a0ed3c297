-- `sheet_fields::blank_sheet`: a blank sheet: its arrays are blank entries repeated.
use Rattle.sheet.specs.Inner.Blank.{blank_sheet}
use Rattle.sheet_fields.proofs.blank_sheet.Goals as goal

pub returns : goal.returns
unfolding blank_sheet
returns c = rw (c.blank_tier.ensures, c.blank_lash.ensures, c.blank_lash-2.ensures)
