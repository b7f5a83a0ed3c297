-- `sheet_fields::closed_place`: the place behind the door end's lashes.
use native.Mathlib.Omega.{arith}
use Rattle.sheet_fields.proofs.closed_place.Goals as goal

pub returns : goal.returns
returns c = ((cc), omega arith)
