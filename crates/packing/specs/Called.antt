-- What a call from C says that returns an outcome: what is said of the outcome, with its two numbers in one.
use Rattle.std.specs.Prelude.{ℕ, ◌/◌, ◌%◌, ◌≡◌}
use Rattle.answer.specs.Outcomes.{Outcome}
use Rattle.answer.specs.Checked.{number, second}

-- the number is in the low 8 bits of r, the second number above them
pub record Called (Said : Outcome → Type 0) (r : ℕ) : Type 0 where
  pub outcome : Outcome
  pub low : number outcome ≡ r % 256
  pub above : second outcome ≡ r / 256
  pub said : Said outcome
