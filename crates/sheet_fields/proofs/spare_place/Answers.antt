-- `sheet_fields::spare_place`: the place behind the closed end's lashes.
use Rattle.sheet_fields.proofs.spare_place.Goals as goal

pub returns : goal.returns
returns c = cc
