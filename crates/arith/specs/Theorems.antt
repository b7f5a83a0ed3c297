-- What is proved of the whole numbers next to a fraction: they are what their names say (proofs/WholeLaws).
use Rattle.std.specs.Prelude.{ℤ, ◌≤ℤ◌}
use Rattle.arith.specs.Fractions.{Frac, int, ◌⊑◌}
use Rattle.arith.specs.Wholes.{floor, ceiling}

-- n is the greatest whole number not above x
pub record GreatestNotAbove (x : Frac) (n : ℤ) : Type 0 where
  pub not_above : int n ⊑ x
  pub greatest : (m : ℤ) → int m ⊑ x → m ≤ℤ n

-- n is the least whole number not below x
pub record LeastNotBelow (x : Frac) (n : ℤ) : Type 0 where
  pub not_below : x ⊑ int n
  pub least : (m : ℤ) → x ⊑ int m → n ≤ℤ m

pub record Wholes (x : Frac) : Type 0 where
  pub down : GreatestNotAbove x (floor x)
  pub up : LeastNotBelow x (ceiling x)
