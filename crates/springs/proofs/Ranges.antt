-- The solver's whole numbers stay in range: what is handed down, the divisors, the shifts.
use mathlib.Core.Path.{◌≡◌, refl, sym, ap, subst, ◌∙◌}
use mathlib.Core.List.{List}
use Prim.Native.Nat.{ℕ, zero, suc, ◌+◌, ◌*◌, ◌/◌, ◌-◌, ◌≤◌, ◌<◌, ◌^◌}
use native.Mathlib.Nat.{div-add-mod', mul-le-mul, mul-le-mul_left, mul-le-mul_right, le_of_mul-le-mul_right, mul-add}
use native.Mathlib.Numerals.{add-one}
use native.Mathlib.Omega.{arith}
use native.Mathlib.Decide.{dec_le}
use lib.Dec.{lit≤}
use lib.IntN.{pos, ◌-ℤ◌}
use lib.ListN.{get_or}
use Rattle.arith.specs.Inner.Sizes.{Small}
use Rattle.arith.proofs.Sizes.{small_weaken, small_pos, small_sub}
use Rattle.springs.specs.Equations.{door_spring, closed_spring}
use Rattle.springs.specs.Inner.Promise.{stiffness_scale, most_loaded, farthest, Solvable}
use Rattle.springs.specs.Inner.Balance.{most_force}
use Rattle.springs.specs.Inner.Elimination.{divisor, stiffness_down, load_down, shift_up, InRange, most_load_together}
use Rattle.springs.proofs.Recursion.{x, y, d, stiffness_top, load_top, stiffness_step, load_step, shift_deck, shift_step}
use Rattle.springs.proofs.Recursion.{shift_behind}

pub quotient_le : (x c b : ℕ) → 0 < c → x ≤ b * c → x / c ≤ b
quotient_le x c b p h = le_of_mul-le-mul_right (omega (arith, div-add-mod' x c)) p

-- the force of a spring at shifts that are found, with its sign
pub force_le : {k u : ℕ} → k ≤ closed_spring → u ≤ farthest → k * u ≤ most_force
force_le hk hu = mul-le-mul hk hu

pub force_small : {k u l : ℕ} → k ≤ closed_spring → u ≤ farthest → l ≤ farthest → Small (2 * most_force) (pos (k * u) -ℤ pos (k * l))
force_small hk hu hl = small_weaken (small_sub (small_pos (mul-le-mul hk hu)) (small_pos (mul-le-mul hk hl))) (lit≤ tt)

-- a spring with what it carries in line is no stiffer than the spring
pub stiffness_le : (k κ x : ℕ) → 0 < k → stiffness_down k κ x ≤ k * stiffness_scale
unfolding stiffness_down
stiffness_le k κ x p = quotient_le (k * (κ + x) * stiffness_scale) (divisor k κ x) (k * stiffness_scale) (omega arith) (go k (κ + x))
  where
    go : (k b : ℕ) → k * b * stiffness_scale ≤ k * stiffness_scale * (k * stiffness_scale + b)
    go k b = omega arith

pub load_le : (k κ ω x y : ℕ) → 0 < k → load_down k κ ω x y ≤ ω + y
unfolding load_down
load_le k κ ω x y p = quotient_le (k * (ω + y) * stiffness_scale) (divisor k κ x) (ω + y) (omega arith) (go k (ω + y) (κ + x))
  where
    go : (k a b : ℕ) → k * a * stiffness_scale ≤ a * (k * stiffness_scale + b)
    go k a b = omega arith

pub shift_le : (k κ ω x y p : ℕ) → door_spring ≤ k → door_spring * shift_up k κ ω x y p ≤ ω + y + door_spring * p
unfolding shift_up
shift_le k κ ω x y p h =
    go (ω + y) (shift_up k κ ω x y p)
    (omega (
      arith,
      div-add-mod' ((ω + y + k * p) * stiffness_scale) (divisor k κ x),
      mul-le-mul_left (shift_up k κ ω x y p) (more (k * stiffness_scale) (κ + x)),
    ))
  where
    more : (a b : ℕ) → a ≤ a + b
    more a b = omega arith

    split : (q : ℕ) → p ≤ q → k * (q - p) + k * p ≡ k * q
    split q l = sym (mul-add k (q - p) p) ∙ ap (λ (m : ℕ). k * m) (omega arith)

    go : (a q : ℕ) → q * (k * stiffness_scale) ≤ (a + k * p) * stiffness_scale → door_spring * q ≤ a + door_spring * p
    go a q e = by_cases (dec_le q p)
      where
        by_cases : Dec (q ≤ p) → door_spring * q ≤ a + door_spring * p
        by_cases (yes l) = omega arith
        by_cases (no l) = omega (arith, mul-le-mul_right (q - p) h, split q (omega arith))

-- what a step scales by 2^22 is at most 2^28 times its divisor, and the divisor is below 2^42
module _ (k κ x : ℕ) (r : InRange k κ x) where
  pub scalable :
      (a : ℕ) →
      a / divisor k κ x ≤ 2 ^ 28 →
      (0 < divisor k κ x) × (divisor k κ x * stiffness_scale < 2 ^ 64) × ((a / divisor k κ x + 1) * stiffness_scale < 2 ^ 64)
  scalable a h = (omega (arith, r.low), omega (arith, r.high, r.held, r.above), omega arith)

  pub stiffness_fits : k * (κ + x) / divisor k κ x ≤ 2 ^ 28
  stiffness_fits =
      quotient_le (k * (κ + x)) (divisor k κ x) (2 ^ 28) (omega (arith, r.low)) (omega (arith, mul-le-mul_right (κ + x) r.high))

  pub load_fits : (a : ℕ) → a ≤ most_load_together → k * a / divisor k κ x ≤ 2 ^ 28
  load_fits a h = quotient_le (k * a) (divisor k κ x) (2 ^ 28) (omega (arith, r.low)) (omega (arith, mul-le-mul_left k h))

  pub shift_fits : (a p : ℕ) → a ≤ most_load_together → p ≤ farthest → (a + k * p) / divisor k κ x ≤ 2 ^ 28
  shift_fits a p h l = quotient_le (a + k * p) (divisor k κ x) (2 ^ 28) (omega (arith, r.low)) (omega (arith, mul-le-mul_left k l, r.low))

-- 1 + 2 + .. + m
abbrev triangle : ℕ → ℕ
triangle zero = 0
triangle (suc m) = suc m + triangle m

triangle_le : (n : ℕ) → n ≤ 10 → triangle n ≤ 55
triangle_le n h = omega (arith, twice n, mul-le-mul h h)
  where
    step : (m n t : ℕ) → n ≡ m + 1 → 2 * t ≡ m * m + m → 2 * (n + t) ≡ n * n + n
    step m n t e h = subst (λ (z : ℕ). 2 * (z + t) ≡ z * z + z) (sym e) (omega arith)

    twice : (m : ℕ) → 2 * triangle m ≡ m * m + m
    twice zero = refl
    twice (suc m) = step m (suc m) (triangle m) (sym (add-one m)) (twice m)

module _ (n : ℕ) (k κ ω : List ℕ) (s : Solvable n k κ ω) where
  -- what is handed down to level j, and its shift
  abbrev xs : ℕ → ℕ
  xs = x n k κ ω

  abbrev ys : ℕ → ℕ
  ys = y n k κ ω

  abbrev ds : ℕ → ℕ
  ds = d n k κ ω

  stiff : (j : ℕ) → j < n → 0 < get_or k j 0
  stiff j l = omega (arith, s.springs j l)

  stiffness_most : (j : ℕ) → j ≤ n → xs j ≤ closed_spring * stiffness_scale
  stiffness_most j b = go (dec_le (suc j) n)
    where
      go : Dec (suc j ≤ n) → xs j ≤ closed_spring * stiffness_scale
      go (yes c) =
          omega
          (arith, stiffness_step n k κ ω j c, stiffness_le (get_or k j 0) (get_or κ j 0) (xs (suc j)) (stiff j c), s.springs j c)
      go (no c) =
          subst (λ (z : ℕ). xs z ≤ closed_spring * stiffness_scale) {x = n} {y = j} (omega arith) (omega (arith, stiffness_top n k κ ω))

  load_most : (j m : ℕ) → j + m ≡ n → ys j ≤ m * most_loaded
  load_most j zero e = subst (λ (z : ℕ). ys z ≤ 0 * most_loaded) {x = n} {y = j} (omega arith) (omega (arith, load_top n k κ ω))
  load_most j (suc m) e =
      let l : j < n = omega arith in
      omega (
        arith,
        load_step n k κ ω j l,
        load_le (get_or k j 0) (get_or κ j 0) (get_or ω j 0) (xs (suc j)) (ys (suc j)) (stiff j l),
        s.loaded j l,
        load_most (suc j) m (omega arith),
        add-one m,
      )

  -- a step at tier j + 1 is in range
  module _ (j : ℕ) (l : j < n) where
    pub in_range : InRange (get_or k j 0) (get_or κ j 0) (xs (suc j))
    in_range = record { low = (s.springs j l).0; high = (s.springs j l).1; held = s.held j l; above = stiffness_most (suc j) l }

    pub load_in_range : get_or ω j 0 + ys (suc j) ≤ most_load_together
    load_in_range = omega (arith, s.loaded j l, load_most (suc j) (n - suc j) (omega arith), s.few)

  shift_most : (j m : ℕ) → j + m ≡ n → door_spring * ds j + triangle m * most_loaded ≤ triangle n * most_loaded
  shift_most zero m e =
      subst (λ (z : ℕ). door_spring * ds 0 + triangle z * most_loaded ≤ triangle n * most_loaded) {x = n} {y = m} (omega arith)
      (omega (arith, shift_deck n k κ ω))
  shift_most (suc j) m e =
      let l : j < n = omega arith in
      omega (
        arith,
        shift_most j (suc m) (omega arith),
        shift_step n k κ ω j l,
        shift_le (get_or k j 0) (get_or κ j 0) (get_or ω j 0) (xs (suc j)) (ys (suc j)) (ds j) (s.springs j l).0,
        s.loaded j l,
        load_most (suc j) m e,
        add-one m,
      )

  -- a shift is at most 2^12 mm
  pub far_at : (j : ℕ) → ds j ≤ farthest
  far_at j = go (dec_le j n)
    where
      go : Dec (j ≤ n) → ds j ≤ farthest
      go (yes b) = omega (arith, shift_most j (n - j) (omega arith), triangle_le n s.few)
      go (no b) = omega (arith, shift_behind n k κ ω j (omega arith))
