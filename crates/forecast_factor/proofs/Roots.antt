-- The comparison of squares is document 02's inequality with the root of B, for every fraction that is not below the root.
use Prim.Native.Nat.{ℕ, ◌+◌, ◌-◌, ◌*◌, ◌≤◌, ◌<◌}
use mathlib.Core.Bool.{true}
use mathlib.Core.Path.{◌≡◌, subst}
use native.Mathlib.Decide.{dec_lt}
use native.Mathlib.Nat.{mul-le-mul, mul-le-mul_left, mul-le-mul_right, le_of_mul-le-mul_left, mul-pos}
use native.Mathlib.Omega.{arith}
use borrow.Author.Tests.{leb-true, le-leb}
use Rattle.forecast_factor.specs.Factor.{enough}
use Rattle.forecast_factor.specs.Theorems.{ByRoots}

-- of two numbers, the one with the greater square is not less
root_le : (x y : ℕ) → x * x ≤ y * y → x ≤ y
root_le x y l = omega (arith, clash)
  where
    clash : y + 1 ≤ x → ⊥
    clash m = omega (arith, mul-le-mul m m)

-- four times a product is at most the square of the sum
four : (x d : ℕ) → 4 * (x * (x + d)) ≤ (x + (x + d)) * (x + (x + d))
four x d = omega arith

-- a = 50 × H, u = t − 400
module _ (a u b : ℕ) where
  -- a at most u times the root: with p / q not below the root, the squares of a q and of u p show it
  to_root : a * a ≤ u * u * b → (p q : ℕ) → b * (q * q) ≤ p * p → a * q ≤ u * p
  to_root e p q l = root_le (a * q) (u * p) squares
    where
      first : a * a * (q * q) ≤ u * u * b * (q * q)
      first = mul-le-mul_right (q * q) e

      next : u * u * (b * (q * q)) ≤ u * u * (p * p)
      next = mul-le-mul_left (u * u) l

      squares : a * q * (a * q) ≤ u * p * (u * p)
      squares = omega (arith, first, next)

  -- were u times the root below a: the mean of a and of u² b / a, over u, is not below the root, and u times it is below a
  mean : u * u * b < a * a → 0 < u → ((p q : ℕ) → 0 < q → b * (q * q) ≤ p * p → a * q ≤ u * p) → ⊥
  mean e positive holds = over (a * a - u * u * b) (omega arith)
    where
      some : 0 < a * u
      some = mul-pos above positive
        where
          none : a ≡ 0 → ⊥
          none z = omega (arith, subst (λ (x : ℕ). u * u * b < x * x) z e)

          above : 0 < a
          above = omega (arith, none)

      over : (d : ℕ) → a * a ≡ u * u * b + d → ⊥
      over d f = omega (arith, le_of_mul-le-mul_left {k = u} product positive)
        where
          -- (2 a u)² b = 4 × a² × u² b
          not_below_lem : b * (2 * (a * u) * (2 * (a * u))) ≤ (u * u * b + a * a) * (u * u * b + a * a)
          not_below_lem =
              let product : b * (2 * (a * u) * (2 * (a * u))) ≡ 4 * (u * u * b * (a * a)) = omega arith in
              rw (product, f) (four (u * u * b) d)

          product : u * (2 * (a * a)) ≤ u * (u * u * b + a * a)
          product = omega (arith, holds (u * u * b + a * a) (2 * (a * u)) (omega (arith, some)) not_below_lem)

  from_root : ((p q : ℕ) → 0 < q → b * (q * q) ≤ p * p → a * q ≤ u * p) → a * a ≤ u * u * b
  from_root holds = omega (arith, go (dec_lt 0 u))
    where
      go : Dec (0 < u) → u * u * b < a * a → ⊥
      go (yes l) e = mean e l holds
      go (no l) e =
          let none : u ≡ 0 = omega arith in
          let short : a * 1 ≤ 0 * (b + 1) = subst (λ (x : ℕ). a * 1 ≤ x * (b + 1)) none (holds (b + 1) 1 (omega arith) (omega arith)) in
          let zero : a ≡ 0 = omega arith in
          omega (arith, subst (λ (x : ℕ). u * u * b < x * x) zero e)

module _ (h b t : ℕ) where
  pub by_roots : enough h b t ≡ true → ByRoots h b t
  unfolding enough
  by_roots e =
      let squares : 50 * h * (50 * h) ≤ (t - 400) * (t - 400) * b = omega (arith, leb-true (2500 * (h * h)) _ e) in
      record { at_least = λ p q positive l. omega (arith, to_root (50 * h) (t - 400) b squares p q l) }

  pub from_roots : ByRoots h b t → enough h b t ≡ true
  unfolding enough
  from_roots r =
      let squares = from_root (50 * h) (t - 400) b (λ p q positive l. twentieth p q (r.at_least p q positive l)) in
      let waves : 2500 * (h * h) ≤ (t - 400) * (t - 400) * b = omega (arith, squares) in
      le-leb _ _ waves
    where
      twentieth : (p q : ℕ) → 1000 * h * q ≤ (t - 400) * (20 * p) → 50 * h * q ≤ (t - 400) * p
      twentieth p q l = omega arith
