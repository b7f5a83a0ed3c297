-- `lash::lash_side` says what `side::side` says, with its two numbers in one.
use Rattle.packing.proofs.OneNumber.{called}
use Rattle.lash.proofs.Fits.{side_fits}
use Rattle.lash.proofs.lash_side.Goals as goal

pub packed_outcome-requires : goal.packed_outcome-requires
packed_outcome-requires c = side_fits c.side-outcome.ensures

pub returns : goal.returns
returns c =
    let k = c.side-outcome in
    let p = c.packed_outcome in
    called k.result k.ensures (side_fits k.ensures) p.result p.ensures
