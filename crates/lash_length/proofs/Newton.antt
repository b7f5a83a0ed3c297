-- Newton's steps for a whole root, rounded up: each gives a number whose square is enough, and the second of two steps from a number
-- near the root one that is at most 1 above the least root. In whole numbers throughout.
use Prim.Native.Nat.{ℕ, ◌+◌, ◌*◌, ◌-◌, ◌/◌, ◌<◌, ◌≤◌}
use mathlib.Core.Path.{◌≡◌, subst}
use native.Mathlib.Nat.{mul-le-mul, mul-le-mul_left, le_of_mul-le-mul_left, lt-div-mul-add, div-mul-le_self}
use native.Mathlib.Decide.{dec_le}
use native.Mathlib.Omega.{arith}
use Rattle.arith.specs.Inner.Roots.{Least}
use Rattle.lash_length.specs.Trials.{nearer}

-- four times a product is at most the square of the sum
four_from : (a d : ℕ) → 4 * (a * (a + d)) ≤ (a + (a + d)) * (a + (a + d))
four_from a d = omega arith

four_le : (a b : ℕ) → a ≤ b → 4 * (a * b) ≤ (a + b) * (a + b)
four_le a b l =
    let e : a + (b - a) ≡ b = omega arith in
    subst (λ (z : ℕ). 4 * (a * z) ≤ (a + z) * (a + z)) e (four_from a (b - a))

pub four : (a b : ℕ) → Dec (a ≤ b) → 4 * (a * b) ≤ (a + b) * (a + b)
four a b (yes l) = four_le a b l
four a b (no l) = omega (arith, four_le b a (omega arith))

-- a step from any x: with q the quotient, the next number is more than half of x + q, and s is less than x (q + 1)
module _ (s x : ℕ) (positive : 0 < x) where
  pub step_enough : s ≤ nearer s x * nearer s x
  step_enough = go (s / x) (nearer s x) (omega arith) (lt-div-mul-add positive)
    where
      go : (q y : ℕ) → x + (q + 1) ≤ 2 * y → s < q * x + x → s ≤ y * y
      go q y h l = omega (arith, four x (q + 1) (dec_le x (q + 1)), mul-le-mul h h)

  -- a step before 1 is added: twice x times it is at most x² + s
  half : 2 * (x * ((x + s / x) / 2)) ≤ x * x + s
  half = go (s / x) ((x + s / x) / 2) (omega arith) (div-mul-le_self s x)
    where
      go : (q z : ℕ) → 2 * z ≤ x + q → q * x ≤ s → 2 * (x * z) ≤ x * x + s
      go q z h l = omega (arith, mul-le-mul_left x h)

-- the product of two differences is not below zero
cross_from : (a e c f : ℕ) → a * (c + f) + (a + e) * c ≤ a * c + (a + e) * (c + f)
cross_from a e c f = omega arith

cross : (a b c d : ℕ) → a ≤ b → c ≤ d → a * d + b * c ≤ a * c + b * d
cross a b c d h l =
    let e : a + (b - a) ≡ b = omega arith in
    let f : c + (d - c) ≡ d = omega arith in
    subst (λ (y : ℕ). a * d + y * c ≤ a * c + y * d) e
    (subst (λ (z : ℕ). a * z + (a + (b - a)) * c ≤ a * c + (a + (b - a)) * z) f (cross_from a (b - a) c (d - c)))

-- the first step, z + 1, from a g whose square is s but for a quarter: 4 g² (81 s - 80 z²) ≥ 4 (5 s - 4 g²) (5 g² - 4 s)
module _ (s g z : ℕ) (positive : 0 < g) (low : 4 * (g * g) ≤ 5 * s) (high : 4 * s ≤ 5 * (g * g)) (step : 2 * (g * z) ≤ g * g + s) where
  first_step : 80 * (z * z) ≤ 81 * s
  first_step =
      le_of_mul-le-mul_left {k = 4 * (g * g)}
      (omega (arith, cross (4 * (g * g)) (5 * s) (4 * s) (5 * (g * g)) low high, mul-le-mul step step))
      (omega (arith, mul-le-mul positive positive))

-- the second step, w + 1, from z + 1, is at most 1 above the least root k: were w above k, then z + 1 is not k, and with z = k + e the
-- square of e is above 2 k; but e is at most a 160th of k
module _ (s k : ℕ) (enough : s ≤ k * k) (positive : 0 < k) (most : k ≤ 22913) where
  small : (e : ℕ) → 80 * ((k + e) * (k + e)) ≤ 81 * s → 160 * e ≤ k
  small e h = le_of_mul-le-mul_left {k = k} (omega (arith, enough)) positive

  beyond : (e w : ℕ) → 80 * ((k + e) * (k + e)) ≤ 81 * s → 2 * ((k + e + 1) * w) ≤ (k + e + 1) * (k + e + 1) + s → k < w → ⊥
  beyond e w h step above =
      let few : e ≤ 143 = omega (arith, small e h, most) in
      omega (arith, small e h, mul-le-mul_left (k + e + 1) above, mul-le-mul_left e few, enough)

  second_step : (z w : ℕ) → k ≤ z + 1 → 80 * (z * z) ≤ 81 * s → 2 * ((z + 1) * w) ≤ (z + 1) * (z + 1) + s → k < w → ⊥
  second_step z w l h step above = go (dec_le k z)
    where
      go : Dec (k ≤ z) → ⊥
      go (yes q) =
          let e : z ≡ k + (z - k) = omega arith in
          beyond (z - k) w (subst (λ (x : ℕ). 80 * (x * x) ≤ 81 * s) e h)
          (subst (λ (x : ℕ). 2 * ((x + 1) * w) ≤ (x + 1) * (x + 1) + s) e step) above
      go (no q) =
          let e : z + 1 ≡ k = omega arith in
          omega (arith, subst (λ (x : ℕ). 2 * (x * w) ≤ x * x + s) e step, mul-le-mul_left k above, enough)

-- two steps from g
module _ (s g k : ℕ) (positive : 0 < g) (low : 4 * (g * g) ≤ 5 * s) (high : 4 * s ≤ 5 * (g * g)) (root : Least s k) (some : 0 < k) where
  pub two_steps_most : k ≤ 22913 → nearer s (nearer s g) ≤ k + 1
  two_steps_most most =
      go ((g + s / g) / 2) (root.least (nearer s g) (step_enough s g positive)) (first_step s g _ positive low high (half s g positive))
    where
      go : (z : ℕ) → k ≤ z + 1 → 80 * (z * z) ≤ 81 * s → nearer s (z + 1) ≤ k + 1
      go z l h = omega (arith, second_step s k root.enough some most z _ l h (half s (z + 1) (omega arith)))
