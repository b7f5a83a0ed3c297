-- The two numbers of what the check, the check by a forecast and the calls for side walls and arrangements return fit one.
use Prim.Native.Nat.{ℕ}
use mathlib.Core.List.{List}
use native.Mathlib.Omega.{arith}
use Rattle.answer.specs.Outcomes.{Outcome}
use Rattle.answer.specs.Checked.{Checked}
use Rattle.answer.proofs.Numbers.{two_numbers}
use Rattle.forecast.specs.Forecasts.{Forecast}
use Rattle.forecast.proofs.Numbers.{forecast_numbers}
use Rattle.side.specs.Sides.{Sided}
use Rattle.side.proofs.Numbers.{side_numbers}
use Rattle.arrangements.specs.Arrangements.{Listed}
use Rattle.arrangements.proofs.Numbers.{list_numbers}
use Rattle.packing.proofs.OneNumber.{Fitting}

pub checked_fits : {margin : ℕ} {s before after : List ℕ} {o : Outcome} → Checked margin s before after o → Fitting o
checked_fits c = (omega (arith, (two_numbers c).first), omega (arith, (two_numbers c).next))

pub forecast_fits :
    {margin : ℕ} {s : List ℕ} {h b hours : ℕ} {before after : List ℕ} {o : Outcome} →
    Forecast margin s h b hours before after o →
    Fitting o
forecast_fits f = (omega (arith, (forecast_numbers f).first), omega (arith, (forecast_numbers f).next))

pub side_fits : {s p before after : List ℕ} {o : Outcome} → Sided s p before after o → Fitting o
side_fits h = (omega (arith, (side_numbers h).first), omega (arith, (side_numbers h).next))

pub list_fits : {margin : ℕ} {s g before after : List ℕ} {o : Outcome} → Listed margin s g before after o → Fitting o
list_fits h = (omega (arith, (list_numbers h).first), omega (arith, (list_numbers h).next))
