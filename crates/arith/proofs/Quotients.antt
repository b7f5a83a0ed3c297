-- Quotients of whole numbers as the code computes them: of products by parts, rounded down and up.
use Prim.Native.Nat.{ℕ, ◌+◌, ◌*◌, ◌-◌, ◌/◌, ◌%◌, ◌<◌, ◌≤◌}
use mathlib.Core.Path.{◌≡◌, sym, ap, ◌∙◌}
use native.Mathlib.Nat.{mul_comm, mul_assoc, add-mul, div-add-mod', mul-add-div_right, mul-add-mod_self_right, mod-lt, le_of_lt}
use native.Mathlib.Nat.{mul-le-mul_left, mul-le-mul_right, div-le_of_le-mul, div-div-eq-div-mul}
use native.Mathlib.Nat.{add_comm, div-lt_iff_lt-mul}
use native.Mathlib.Omega.{arith}

-- x = x / c * c + x % c, times m
by_parts : (x m c : ℕ) → x / c * m * c + x % c * m ≡ x * m
by_parts x m c =
    ap (λ (n : ℕ). n + x % c * m) (mul_assoc (x / c) m c ∙ ap (λ (n : ℕ). x / c * n) (mul_comm m c) ∙ sym (mul_assoc (x / c) c m))
    ∙ sym (add-mul (x / c * c) (x % c) m)
    ∙ ap (λ (n : ℕ). n * m) (div-add-mod' x c)

module _ (x m c : ℕ) (h : 0 < c) where
  pub split_div : x / c * m + x % c * m / c ≡ x * m / c
  split_div = sym (mul-add-div_right h (x / c * m) (x % c * m)) ∙ ap (λ (n : ℕ). n / c) (by_parts x m c)

  pub split_mod : x % c * m % c ≡ x * m % c
  split_mod = sym (mul-add-mod_self_right (x / c * m) c (x % c * m)) ∙ ap (λ (n : ℕ). n % c) (by_parts x m c)

  -- what stays in range
  pub rest_le : x % c * m ≤ c * m
  rest_le = mul-le-mul_right m (le_of_lt (mod-lt x h))

  pub rest_div_le : x % c * m / c ≤ m
  rest_div_le = div-le_of_le-mul c rest_le

  pub scaled_le : x * m / c ≤ (x / c + 1) * m
  scaled_le = rw (← split_div) (omega (arith, rest_div_le))

-- the second step from the first one's remainder
module _ (x m n c : ℕ) (h : 0 < c) where
  pub split_twice : x * m / c * n + x % c * m % c * n / c ≡ x * (m * n) / c
  split_twice = rw (split_mod x m c h, ← mul_assoc x m n) (split_div (x * m) n c h)

  pub twice_le : x * m / c * n + x % c * m % c * n / c ≤ (x / c + 1) * (m * n)
  twice_le = rw split_twice (scaled_le x (m * n) c h)

  pub once_le : 0 < n → (x / c + 1) * m ≤ (x / c + 1) * (m * n)
  once_le l = rw (← mul_assoc (x / c + 1) m n) (omega (arith, mul-le-mul_left ((x / c + 1) * m) l))

module _ (x y m : ℕ) (h : 0 < m) where
  pub split_mul : x * (y / m) + x * (y % m) / m ≡ x * y / m
  split_mul = rw (mul_comm x (y / m), mul_comm x (y % m), mul_comm x y) (split_div y x m h)

  pub part_le : x * (y % m) ≤ x * m
  part_le = mul-le-mul_left x (le_of_lt (mod-lt y h))

  pub part_div_le : x * (y % m) / m ≤ x
  part_div_le = rw (mul_comm x (y % m)) (rest_div_le y x m h)

pub split_mul_twice : (x y m n : ℕ) → 0 < m → (x * (y / m) + x * (y % m) / m) / n ≡ x * y / (m * n)
split_mul_twice x y m n h = rw (split_mul x y m h) (div-div-eq-div-mul (x * y) m n)

-- a product rounded up, by the parts of y over m, then over n
module _ (x y m : ℕ) (h : 0 < m) where
  pub up_part_le : (x * (y % m) + (m - 1)) / m ≤ x
  up_part_le =
      let l : x * (y % m) + (m - 1) < (x + 1) * m = omega (arith, part_le x y m h) in
      omega (arith, (div-lt_iff_lt-mul h).1 l)

  split_up : x * (y / m) + (x * (y % m) + (m - 1)) / m ≡ (x * y + (m - 1)) / m
  split_up =
      let e : x * (y / m) * m + (x * (y % m) + (m - 1)) ≡ x * y + (m - 1) = omega (arith, parts) in
      sym (mul-add-div_right h (x * (y / m)) (x * (y % m) + (m - 1))) ∙ ap (λ (k : ℕ). k / m) e
    where
      parts : x * (y / m) * m + x * (y % m) ≡ x * y
      parts = rw (mul_comm x (y / m), mul_comm x (y % m), mul_comm x y) (by_parts y x m)

  pub split_up_twice :
      (n : ℕ) → 0 < n → (x * (y / m) + (x * (y % m) + (m - 1)) / m + (n - 1)) / n ≡ (x * y + (m * n - 1)) / (m * n)
  split_up_twice n l =
      let one : n - 1 + 1 ≡ n = omega arith in
      let whole : (n - 1) * m + 1 * m ≡ m * n = sym (add-mul (n - 1) 1 m) ∙ ap (λ (k : ℕ). k * m) one ∙ mul_comm n m in
      let e : (n - 1) * m + (x * y + (m - 1)) ≡ x * y + (m * n - 1) = omega (arith, whole) in
      let over : (x * y + (m - 1)) / m + (n - 1) ≡ (x * y + (m * n - 1)) / m =
      add_comm ((x * y + (m - 1)) / m) (n - 1) ∙ sym (mul-add-div_right h (n - 1) (x * y + (m - 1))) ∙ ap (λ (k : ℕ). k / m) e
      in
      rw split_up (ap (λ (k : ℕ). k / n) over ∙ div-div-eq-div-mul (x * y + (m * n - 1)) m n)
