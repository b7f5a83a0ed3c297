-- The search for the factor, as far as it has come.
use Rattle.std.specs.Prelude.{ℕ, ◌-◌, ◌*◌, ◌^◌, ◌≤◌, ◌<◌, true, false, ◌≡◌}
use Rattle.forecast_factor.specs.Factor.{enough}

-- the factor is one of `least` to `most`: none within 600 and 1,000 below `least` is enough; `most` is, unless it is 1,000
pub record Between (h b least most : ℕ) : Type 0 where
  pub low : 600 ≤ least
  pub ordered : least ≤ most
  pub high : most ≤ 1000
  pub reached : most < 1000 → enough h b most ≡ true
  pub none_less : (s : ℕ) → 600 ≤ s → s < least → enough h b s ≡ false

-- each comparison leaves at most half: from 400 numbers under 1,000
pub record Halved (least most compared : ℕ) : Type 0 where
  pub few : (most - least) * 2 ^ compared ≤ 400
