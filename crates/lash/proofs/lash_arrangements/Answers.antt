-- `lash::lash_arrangements` says what `arrangements::list` says, with its two numbers in one.
use Rattle.packing.proofs.OneNumber.{called_both}
use Rattle.lash.proofs.Fits.{list_fits}
use Rattle.lash.proofs.lash_arrangements.Goals as goal

pub packed_outcome-requires : goal.packed_outcome-requires
packed_outcome-requires c = list_fits c.list-outcome.ensures.listed

pub returns : goal.returns
returns c =
    let k = c.list-outcome in
    let p = c.packed_outcome in
    let both = called_both k.result (k.ensures.listed, k.ensures.named) (list_fits k.ensures.listed) p.result p.ensures in
    record { listed = both.0; named = both.1 }
