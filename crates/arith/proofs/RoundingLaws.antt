-- Rounded quotients beside the exact fractions: on the right side, and less than one away. For any divisor above zero.
use mathlib.Core.Path.{◌≡◌}
use Prim.Native.Nat.{ℕ, ◌+◌, ◌*◌, ◌/◌, ◌<◌, ◌≤◌}
use native.Mathlib.Nat.{div-mul-le_self, lt-div-mul-add}
use lib.IntN.{ℤ, pos}
use Rattle.arith.specs.Fractions.{nat, int, ◌⊑◌, ◌⊏◌, ◌+q◌, ◌*q◌, ◌/q◌}
use Rattle.arith.specs.Inner.Rounding.{scaled_down, rounded_up, rounded_up_z}
use Rattle.arith.proofs.Rationals as Q
use Rattle.arith.proofs.Rationals.{to-⊑, ◌+ℚ◌, ◌/ℚ◌, int_plus}
use Rattle.arith.proofs.FractionsInRationals.{to-⊏, toℚ}
use Rattle.arith.proofs.RationalOrder.{above_0, div_le, lt_div}
use Rattle.arith.proofs.RationalRounding.{down_le, down_lt, up_le, up_lt, div_down, ceil_up, ceil_up_z, scaled_down_lem, scaled_low}
use Rattle.arith.proofs.RationalRounding.{scaled_lt}

next : (n : ℕ) → Q.int (pos (n + 1)) ≡ Q.int (pos n) +ℚ Q.int (pos 1)
next n = int_plus (pos n) (pos 1)

-- x / c rounded down: x / c - 1 < r ≤ x / c
module _ (x c : ℕ) (h : 0 < c) where
  pub floor_low : nat (x / c) ⊑ nat x /q nat c
  floor_low = to-⊑ (nat (x / c)) (nat x /q nat c) (simp toℚ (down_le (above_0 c h) (div_down x c h)))

  pub floor_high : nat x /q nat c ⊏ nat (x / c + 1)
  floor_high = to-⊏ (nat x /q nat c) (nat (x / c + 1)) (simp toℚ (rw next (down_lt (above_0 c h) (div_down x c h))))

-- z / d rounded up: z / d ≤ r < z / d + 1
module _ (x d : ℕ) (h : 0 < d) where
  pub ceil_low : nat x /q nat d ⊑ nat (rounded_up x d)
  ceil_low = to-⊑ (nat x /q nat d) (nat (rounded_up x d)) (simp toℚ (up_le (above_0 d h) (ceil_up x d h)))

  pub ceil_high : nat (rounded_up x d) ⊏ nat x /q nat d +q nat 1
  ceil_high = to-⊏ (nat (rounded_up x d)) (nat x /q nat d +q nat 1) (simp toℚ (up_lt (above_0 d h) (ceil_up x d h)))

module _ (z : ℤ) (d : ℕ) (h : 0 < d) where
  pub ceil_z_low : int z /q nat d ⊑ int (rounded_up_z z d)
  ceil_z_low = to-⊑ (int z /q nat d) (int (rounded_up_z z d)) (simp toℚ (up_le (above_0 d h) (ceil_up_z z d h)))

  pub ceil_z_high : int (rounded_up_z z d) ⊏ int z /q nat d +q nat 1
  ceil_z_high = to-⊏ (int (rounded_up_z z d)) (int z /q nat d +q nat 1) (simp toℚ (up_lt (above_0 d h) (ceil_up_z z d h)))

-- x / c in units of 1 / m, rounded down: in units, and as a fraction less than 1 / m short
module _ (x m c : ℕ) (h : 0 < c) where
  pub scaled_units_low : nat (scaled_down x m c) ⊑ nat m *q (nat x /q nat c)
  scaled_units_low =
      to-⊑ (nat (scaled_down x m c)) (nat m *q (nat x /q nat c)) (simp toℚ (scaled_low (pos x) (pos m) (above_0 c h) (scaled_down_lem x m c h)))

  pub scaled_units_high : nat m *q (nat x /q nat c) ⊏ nat (scaled_down x m c + 1)
  scaled_units_high =
      to-⊏ (nat m *q (nat x /q nat c)) (nat (scaled_down x m c + 1))
      (simp toℚ (rw next (scaled_lt (pos x) (pos m) (above_0 c h) (scaled_down_lem x m c h))))

  pub scaled_frac_low : 0 < m → nat (scaled_down x m c) /q nat m ⊑ nat x /q nat c
  scaled_frac_low k =
      to-⊑ (nat (scaled_down x m c) /q nat m) (nat x /q nat c)
      (simp toℚ
      (div_le (Q.int (pos (scaled_down x m c))) (Q.int (pos m)) (Q.int (pos x) /ℚ Q.int (pos c)) (above_0 m k)
      (scaled_low (pos x) (pos m) (above_0 c h) (scaled_down_lem x m c h))))

  pub scaled_frac_high : 0 < m → nat x /q nat c ⊏ nat (scaled_down x m c + 1) /q nat m
  scaled_frac_high k =
      to-⊏ (nat x /q nat c) (nat (scaled_down x m c + 1) /q nat m)
      (simp toℚ
      (lt_div (Q.int (pos (scaled_down x m c + 1))) (Q.int (pos m)) (Q.int (pos x) /ℚ Q.int (pos c)) (above_0 m k)
      (rw next (scaled_lt (pos x) (pos m) (above_0 c h) (scaled_down_lem x m c h)))))

  -- the same multiplied out
  pub scaled_times_le : scaled_down x m c * c ≤ x * m
  scaled_times_le = div-mul-le_self (x * m) c

  pub scaled_times_lt : x * m < scaled_down x m c * c + c
  scaled_times_lt = lt-div-mul-add h
