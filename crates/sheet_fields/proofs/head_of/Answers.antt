-- `sheet_fields::head_of`: the head, field by field.
use Rattle.sheet.specs.Layout.{head_of}
use Rattle.sheet_fields.proofs.head_of.Goals as goal

pub returns : goal.returns
unfolding head_of
returns c = cc
