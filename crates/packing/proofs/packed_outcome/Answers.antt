-- `packing::packed_outcome`: the two numbers of each case, joined.
use Rattle.packing.proofs.OneNumber.{case_fits, case_joined}
use Rattle.packing.proofs.packed_outcome.Goals as goal

pub joined-requires : goal.joined-requires
joined-requires c = case_fits c.in-Ok.is c.requires

pub joined-requires-in-Err : goal.joined-requires-in-Err
joined-requires-in-Err c = case_fits c.in-Err.is c.requires

pub returns-in-Ok : goal.returns-in-Ok
returns-in-Ok c = case_joined c.in-Ok.is c.joined.result c.joined.ensures

pub returns-in-Err : goal.returns-in-Err
returns-in-Err c = case_joined c.in-Err.is c.joined-in-Err.result c.joined-in-Err.ensures
