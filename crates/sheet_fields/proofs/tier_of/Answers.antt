-- `sheet_fields::tier_of`: a tier, field by field.
use Rattle.sheet.specs.Layout.{tier_of}
use Rattle.sheet_fields.proofs.tier_of.Goals as goal

pub returns : goal.returns
unfolding tier_of
returns c = cc
