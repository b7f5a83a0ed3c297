-- Sizes of signed numbers.
use Rattle.std.specs.Prelude.{ℕ, ◌≤◌, ℤ, nat_abs}

-- the size of z, its value without the sign, is at most b
pub record Small (b : ℕ) (z : ℤ) : Type 0 where
  pub size : nat_abs z ≤ b
