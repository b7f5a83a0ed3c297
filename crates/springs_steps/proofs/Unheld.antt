-- A step at a level that nothing holds, neither lashes nor what is handed down to it: 2^22 cancels, and the load goes down whole.
use mathlib.Core.Path.{◌≡◌, ap, ◌∙◌}
use Prim.Native.Nat.{ℕ, ◌+◌, ◌*◌, ◌/◌, ◌<◌}
use native.Mathlib.Nat.{mul-div-mul_right, add-mul-div_left, mul-div_cancel_left, add_comm}
use native.Mathlib.Omega.{arith}
use Rattle.arith.specs.Inner.Rounding.{scaled_down}
use Rattle.springs.specs.Inner.Promise.{stiffness_scale}
use Rattle.springs.specs.Inner.Elimination.{divisor, stiffness_down, load_down, shift_up}

module _ (k κ x : ℕ) (stiff : 0 < k) (free : κ + x ≡ 0) where
  cancelled : (a : ℕ) → scaled_down a stiffness_scale (divisor k κ x) ≡ a / k
  cancelled a =
      ap (λ (c : ℕ). a * stiffness_scale / c) {x = divisor k κ x} {y = k * stiffness_scale} (omega arith)
      ∙ mul-div-mul_right a k (omega arith)

  pub stiffness_unheld : stiffness_down k κ x ≡ 0
  unfolding stiffness_down
  stiffness_unheld = cancelled (k * (κ + x)) ∙ mul-div_cancel_left (κ + x) stiff ∙ free

  pub load_unheld : (ω y : ℕ) → load_down k κ ω x y ≡ ω + y
  unfolding load_down
  load_unheld ω y = cancelled (k * (ω + y)) ∙ mul-div_cancel_left (ω + y) stiff

  pub shift_unheld : (ω y p : ℕ) → shift_up k κ ω x y p ≡ p + (ω + y) / k
  unfolding shift_up
  shift_unheld ω y p = cancelled (ω + y + k * p) ∙ add-mul-div_left (ω + y) p stiff ∙ add_comm ((ω + y) / k) p
