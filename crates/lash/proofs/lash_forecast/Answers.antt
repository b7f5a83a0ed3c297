-- `lash::lash_forecast` says what `forecast::forecast` says, with its two numbers in one.
use Rattle.packing.proofs.OneNumber.{called_both}
use Rattle.lash.proofs.Fits.{forecast_fits}
use Rattle.lash.proofs.lash_forecast.Goals as goal

pub packed_outcome-requires : goal.packed_outcome-requires
packed_outcome-requires c = forecast_fits c.forecast-outcome.ensures.answered

pub returns : goal.returns
returns c =
    let k = c.forecast-outcome in
    let p = c.packed_outcome in
    let both = called_both k.result (k.ensures.answered, k.ensures.named) (forecast_fits k.ensures.answered) p.result p.ensures in
    record { answered = both.0; named = both.1 }
