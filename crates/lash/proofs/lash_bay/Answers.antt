-- `lash::lash_bay` says what `bay::report` says, with its three numbers in one.
use Rattle.bay.proofs.Numbers.{bay_most}
use Rattle.lash.proofs.BayNumber.{bay_called_both}
use Rattle.lash.proofs.lash_bay.Goals as goal

pub packed_bay-requires : goal.packed_bay-requires
packed_bay-requires c = bay_most _ _ _ _ _ c.report-outcome.ensures.reported

pub returns : goal.returns
returns c =
    let k = c.report-outcome in
    let p = c.packed_bay in
    let both = bay_called_both k.result (k.ensures.reported, k.ensures.named) (bay_most _ _ _ _ _ k.ensures.reported) p.result p.ensures in
    record { reported = both.0; named = both.1 }
