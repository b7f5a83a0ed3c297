-- `sheet_fields::lash_of`: a lash, field by field.
use Rattle.sheet.specs.Layout.{lash_of}
use Rattle.sheet_fields.proofs.lash_of.Goals as goal

pub returns : goal.returns
unfolding lash_of
returns c = cc
