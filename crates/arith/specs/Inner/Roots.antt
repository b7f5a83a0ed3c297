-- Least whole roots.
use Rattle.std.specs.Prelude.{ℕ, ◌*◌, ◌≤◌}

-- r is the least number whose square is s or more
pub record Least (s r : ℕ) : Type 0 where
  pub enough : s ≤ r * r
  pub least : (k : ℕ) → s ≤ k * k → r ≤ k
