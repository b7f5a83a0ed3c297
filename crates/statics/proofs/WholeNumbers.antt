-- Whole numbers in ℚ: their sums and products, and a quotient of two, multiplied out.
use mathlib.Core.Path.{◌≡◌, sym, ap₂, ◌∙◌}
use Prim.Native.Nat.{ℕ, ◌+◌, ◌*◌, ◌<◌}
use lib.IntN.{pos}
use Rattle.arith.specs.Fractions.{Frac, nat, ◌*q◌, ◌/q◌, ◌≈◌}
use Rattle.arith.proofs.Rationals.{mk, int, ◌+ℚ◌, ◌*ℚ◌, ◌/ℚ◌, times_comm, int_plus, int_times}
use Rattle.arith.proofs.RationalOrder.{above_0}
use Rattle.arith.proofs.Signs.{div_eq}
use Rattle.arith.proofs.FractionsInRationals.{mk_int, mk_div, to-≈, of-≈}
use Rattle.springs.proofs.Chain.{natℚ}

pub nat_plus : (m n : ℕ) → natℚ (m + n) ≡ natℚ m +ℚ natℚ n
nat_plus m n = int_plus (pos m) (pos n)

pub nat_times : (m n : ℕ) → natℚ (m * n) ≡ natℚ m *ℚ natℚ n
nat_times m n = int_times (pos m) (pos n)

-- x / c is y where c y is x
pub times_q : (c x : ℕ) (y : Frac) → nat c *q y ≈ nat x → natℚ c *ℚ mk y ≡ natℚ x
unfolding int ◌*ℚ◌
times_q c x y e = of-≈ (nat c *q y) (nat x) e

pub quotient_is : (c x : ℕ) (y : Frac) → 0 < c → natℚ c *ℚ mk y ≡ natℚ x → nat x /q nat c ≈ y
quotient_is c x y h e =
    to-≈ (nat x /q nat c) y
    (mk_div (nat x) (nat c)
    ∙ ap₂ ◌/ℚ◌ (mk_int (pos x)) (mk_int (pos c))
    ∙ sym (div_eq (mk y) (natℚ x) (natℚ c) (above_0 c h) (times_comm (mk y) (natℚ c) ∙ e)))
