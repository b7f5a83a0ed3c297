-- Quotients of whole numbers, rounded to whole numbers. Divisors are above zero.
use Rattle.std.specs.Prelude.{ℕ, suc, ◌+◌, ◌*◌, ◌-◌, ◌/◌, ℤ, pos, negsuc, neg_ℤ}

-- x times m over c, rounded down
abbrev pub scaled_down : ℕ → ℕ → ℕ → ℕ
scaled_down x m c = x * m / c

-- x over d, rounded up
abbrev pub rounded_up : ℕ → ℕ → ℕ
rounded_up x d = (x + (d - 1)) / d

-- z over d, rounded up: below zero that is towards zero
unfoldable pub rounded_up_z : ℤ → ℕ → ℤ
rounded_up_z (pos n) d = pos (rounded_up n d)
rounded_up_z (negsuc n) d = neg_ℤ (pos (suc n / d))
