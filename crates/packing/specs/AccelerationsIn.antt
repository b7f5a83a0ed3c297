-- Which bits of the number that lash_roll returns hold accelerations. The first number is in the low 8 bits.
use Rattle.std.specs.Prelude.{ℕ, ◌/◌, ◌%◌, ◌^◌, ◌≡◌}
use Rattle.roll.specs.declared.Accelerations.{Accelerations}

-- accelerations: 0, then bits 8 to 23 A_T, bits 24 to 39 A_Vmax, bits 40 to 55 A_Vmin; the bits above are 0
pub record AccelerationsIn (a : Accelerations) (r : ℕ) : Type 0 where
  pub number : r % 2 ^ 8 ≡ 0
  pub aT : r / 2 ^ 8 % 2 ^ 16 ≡ a.aT
  pub aVmax : r / 2 ^ 24 % 2 ^ 16 ≡ a.aVmax
  pub aVmin : r / 2 ^ 40 ≡ a.aVmin
