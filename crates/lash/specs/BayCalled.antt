-- What the call lash_bay says: what is said of the outcome, with its three numbers in one.
use Rattle.std.specs.Prelude.{ℕ, ◌/◌, ◌%◌, ◌<◌, ◌^◌, ◌≡◌}
use Rattle.bay.specs.Reports.{BayOutcome, number, second, row}

-- the number is in the low 8 bits of r, the second number or the report's length in bits 8 to 31, the row in bits 32 to 39; the bits above
-- are 0
pub record BayCalled (Said : BayOutcome → Type 0) (r : ℕ) : Type 0 where
  pub outcome : BayOutcome
  pub low : number outcome ≡ r % 2 ^ 8
  pub middle : second outcome ≡ r / 2 ^ 8 % 2 ^ 24
  pub high : row outcome ≡ r / 2 ^ 32
  pub few : r / 2 ^ 32 < 2 ^ 8
  pub said : Said outcome
