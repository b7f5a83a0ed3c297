-- `lash::packed_bay`: the three numbers of each case, packed.
use native.Mathlib.Omega.{arith}
use Rattle.lash.proofs.BayNumber.{bay_case_small, bay_case_packed}
use Rattle.lash.proofs.packed_bay.Goals as goal

pub joined-requires : goal.joined-requires
joined-requires c =
    let small = bay_case_small c.in-Ok.is c.requires in
    (omega arith, omega (arith, small.1))

pub joined-requires-in-Err : goal.joined-requires-in-Err
joined-requires-in-Err c =
    let small = bay_case_small c.in-Err.is c.requires in
    (omega (arith, small.0), omega (arith, small.1))

pub overflow_mul-result : goal.overflow_mul-result
overflow_mul-result c =
    let small = bay_case_small c.in-Err.is c.requires in
    omega (arith, small.2)

pub overflow_add-result : goal.overflow_add-result
overflow_add-result c =
    let small = bay_case_small c.in-Err.is c.requires in
    omega (arith, c.joined-in-Err.ensures, small.0, small.1, small.2)

pub returns-in-Ok : goal.returns-in-Ok
returns-in-Ok c =
    bay_case_packed c.in-Ok.is c.joined.result (omega (arith, c.joined.ensures))

pub returns-in-Err : goal.returns-in-Err
returns-in-Err c =
    bay_case_packed c.in-Err.is _ (omega (arith, c.joined-in-Err.ensures))
