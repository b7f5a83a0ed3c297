-- Which bits of the number that a call from C returns hold a refusal.
use Rattle.std.specs.Prelude.{ℕ, ◌/◌, ◌%◌, ◌^◌, ◌≡◌}
use Rattle.sheet.specs.declared.Refusal.{Refusal}

-- a refusal: its number, then the second number
pub record RefusalIn (why : Refusal) (r : ℕ) : Type 0 where
  pub low : r % 2 ^ 8 ≡ why.number
  pub above : r / 2 ^ 8 ≡ why.second
