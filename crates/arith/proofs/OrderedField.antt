-- Fractions as an ordered field with a size, up to their equality: the strict order, quotients, the size and the triangle inequality.
-- Through ℚ. The laws of sums, products and the order that is not strict are in FractionLaws.
use mathlib.Core.Path.{ap}
use lib.IntN.{pos}
use Rattle.arith.specs.Fractions.{Frac, nat, ◌≈◌, ◌⊑◌, ◌⊏◌, ◌+q◌, ◌-q◌, ◌*q◌, ◌/q◌, negq, absq}
use Rattle.arith.proofs.Rationals as Q
use Rattle.arith.proofs.Rationals.{mk, of-⊑, to-⊑, <→≤, ◌<ℚ◌, absℚ}
use Rattle.arith.proofs.RationalOrder.{lt_of, lt_not, <ℚ-irrefl, <ℚ-trans, <ℚ-≤ℚ-trans, ≤ℚ-<ℚ-trans, <ℚ-add, <ℚ-mul, div_times}
use Rattle.arith.proofs.RationalOrder.{div_le, le_div, div_lt, lt_div}
use Rattle.arith.proofs.Signs.{nn_q, ge_q, ge_neg_q, absℚ_le, absℚ_nn, absℚ_neg, absℚ_add, absℚ_sub, absℚ_between, absℚ_mul}
use Rattle.arith.proofs.FractionsInRationals.{to-≈, of-≈, of-⊏, to-⊏, toℚ}

-- the strict order
pub ⊏-of : (x y : Frac) → ¬ (y ⊑ x) → x ⊏ y
⊏-of x y h = to-⊏ x y (lt_of (mk x) (mk y) (λ l. h (to-⊑ y x l)))

pub ⊏-not : (x y : Frac) → x ⊏ y → ¬ (y ⊑ x)
⊏-not x y h l = lt_not (of-⊏ x y h) (of-⊑ y x l)

pub ⊏-⊑ : (x y : Frac) → x ⊏ y → x ⊑ y
⊏-⊑ x y h = to-⊑ x y (<→≤ (of-⊏ x y h))

pub ⊏-irrefl : (x : Frac) → ¬ (x ⊏ x)
⊏-irrefl x h = <ℚ-irrefl (of-⊏ x x h)

pub ⊏-trans : (x y z : Frac) → x ⊏ y → y ⊏ z → x ⊏ z
⊏-trans x y z h l = to-⊏ x z (<ℚ-trans (of-⊏ x y h) (of-⊏ y z l))

pub ⊏-⊑-trans : (x y z : Frac) → x ⊏ y → y ⊑ z → x ⊏ z
⊏-⊑-trans x y z h l = to-⊏ x z (<ℚ-≤ℚ-trans (of-⊏ x y h) (of-⊑ y z l))

pub ⊑-⊏-trans : (x y z : Frac) → x ⊑ y → y ⊏ z → x ⊏ z
⊑-⊏-trans x y z h l = to-⊏ x z (≤ℚ-<ℚ-trans (of-⊑ x y h) (of-⊏ y z l))

pub +q-strict : (x y z : Frac) → x ⊏ y → x +q z ⊏ y +q z
+q-strict x y z h = to-⊏ (x +q z) (y +q z) (simp toℚ (<ℚ-add (mk x) (mk y) (mk z) (of-⊏ x y h)))

above : (x : Frac) → nat 0 ⊏ x → Q.int (pos 0) <ℚ mk x
unfolding Q.int
above x h = of-⊏ (nat 0) x h

pub *q-strict : (x y z : Frac) → nat 0 ⊏ z → x ⊏ y → x *q z ⊏ y *q z
*q-strict x y z n h = to-⊏ (x *q z) (y *q z) (simp toℚ (<ℚ-mul (mk x) (mk y) (mk z) (above z n) (of-⊏ x y h)))

-- quotients by a fraction above zero: a divisor goes to the other side
pub /q-times : (x d : Frac) → nat 0 ⊏ d → d *q (x /q d) ≈ x
/q-times x d h = to-≈ (d *q (x /q d)) x (simp toℚ (div_times (mk x) (mk d) (above d h)))

module _ (x d y : Frac) (h : nat 0 ⊏ d) where
  pub /q-le : x ⊑ d *q y → x /q d ⊑ y
  /q-le l = to-⊑ (x /q d) y (simp toℚ (div_le (mk x) (mk d) (mk y) (above d h) (simp toℚ at (of-⊑ x (d *q y) l))))

  pub le-/q : d *q y ⊑ x → y ⊑ x /q d
  le-/q l = to-⊑ y (x /q d) (simp toℚ (le_div (mk x) (mk d) (mk y) (above d h) (simp toℚ at (of-⊑ (d *q y) x l))))

  pub /q-lt : x ⊏ d *q y → x /q d ⊏ y
  /q-lt l = to-⊏ (x /q d) y (simp toℚ (div_lt (mk x) (mk d) (mk y) (above d h) (simp toℚ at (of-⊏ x (d *q y) l))))

  pub lt-/q : d *q y ⊏ x → y ⊏ x /q d
  lt-/q l = to-⊏ y (x /q d) (simp toℚ (lt_div (mk x) (mk d) (mk y) (above d h) (simp toℚ at (of-⊏ (d *q y) x l))))

-- the size
pub absq_nn : (x : Frac) → nat 0 ⊑ absq x
absq_nn x = to-⊑ (nat 0) (absq x) (simp toℚ (nn_q (mk x)))

pub absq_ge : (x : Frac) → x ⊑ absq x
absq_ge x = to-⊑ x (absq x) (simp toℚ (ge_q (mk x)))

pub absq_ge_neg : (x : Frac) → negq x ⊑ absq x
absq_ge_neg x = to-⊑ (negq x) (absq x) (simp toℚ (ge_neg_q (mk x)))

pub absq_le : (x b : Frac) → x ⊑ b → negq x ⊑ b → absq x ⊑ b
absq_le x b h l = to-⊑ (absq x) b (simp toℚ (absℚ_le (mk x) (mk b) (of-⊑ x b h) (simp toℚ at (of-⊑ (negq x) b l))))

pub absq_is : (x : Frac) → nat 0 ⊑ x → absq x ≈ x
absq_is x h = to-≈ (absq x) x (simp toℚ (absℚ_nn (mk x) (simp toℚ at (of-⊑ (nat 0) x h))))

pub absq_cong : (x y : Frac) → x ≈ y → absq x ≈ absq y
absq_cong x y h = to-≈ (absq x) (absq y) (simp toℚ (ap absℚ (of-≈ x y h)))

pub absq_neg : (x : Frac) → absq (negq x) ≈ absq x
absq_neg x = to-≈ (absq (negq x)) (absq x) (simp toℚ (absℚ_neg (mk x)))

pub absq_mul : (x y : Frac) → absq (x *q y) ≈ absq x *q absq y
absq_mul x y = to-≈ (absq (x *q y)) (absq x *q absq y) (simp toℚ (absℚ_mul (mk x) (mk y)))

-- the triangle inequality: of a sum, a difference, and by a fraction between
pub absq_add : (x y : Frac) → absq (x +q y) ⊑ absq x +q absq y
absq_add x y = to-⊑ (absq (x +q y)) (absq x +q absq y) (simp toℚ (absℚ_add (mk x) (mk y)))

pub absq_sub : (x y : Frac) → absq (x -q y) ⊑ absq x +q absq y
absq_sub x y = to-⊑ (absq (x -q y)) (absq x +q absq y) (simp toℚ (absℚ_sub (mk x) (mk y)))

pub absq_between : (x y z : Frac) → absq (x -q z) ⊑ absq (x -q y) +q absq (y -q z)
absq_between x y z =
    to-⊑ (absq (x -q z)) (absq (x -q y) +q absq (y -q z)) (simp toℚ (absℚ_between (mk x) (mk y) (mk z)))
