-- Sums and greatest values of numbers that are counted from 0.
use Rattle.std.specs.Prelude.{ℕ, zero, suc, ◌+◌, cond, ltb}

-- f 0 + f 1 + .. of which there are n
unfoldable pub sum_of : (ℕ → ℕ) → ℕ → ℕ
sum_of f zero = 0
sum_of f (suc n) = sum_of f n + f n

-- the greatest of them, 0 of none
unfoldable pub larger : ℕ → ℕ → ℕ
larger a b = cond (ltb a b) b a

unfoldable pub greatest_of : (ℕ → ℕ) → ℕ → ℕ
greatest_of f zero = 0
greatest_of f (suc n) = larger (greatest_of f n) (f n)
