-- `lash::lash_check` says what `stack_check::check` says, with its two numbers in one.
use Rattle.packing.proofs.OneNumber.{called_both}
use Rattle.lash.proofs.Fits.{checked_fits}
use Rattle.lash.proofs.lash_check.Goals as goal

pub packed_outcome-requires : goal.packed_outcome-requires
packed_outcome-requires c = checked_fits c.check-outcome.ensures.checked

pub returns : goal.returns
returns c =
    let k = c.check-outcome in
    let p = c.packed_outcome in
    let both = called_both k.result (k.ensures.checked, k.ensures.named) (checked_fits k.ensures.checked) p.result p.ensures in
    record { checked = both.0; named = both.1 }
