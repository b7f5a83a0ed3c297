-- The order of ℤ: laws, the two cases, the absolute value.
use mathlib.Core.Path.{◌≡◌, refl, sym, ap, subst, ◌∙◌}
use mathlib.Core.Logic.{◌⊎◌, inl, inr}
use mathlib.Core.Bool.{true, false, not, true≢false}
use Prim.Native.Nat.{ℕ, zero, suc}
use native.Mathlib.Numerals.{add-one}
use native.Mathlib.Omega.{arith}
use borrow.Author.Tests.{ltb-true}
use lib.Dec.{T, le→leb}
use lib.IntN.{ℤ, pos, negsuc, neg_ℤ, nat_abs, ◌+ℤ◌, ◌-ℤ◌, ◌*ℤ◌, neg_ℤ-+ℤ}
use lib.Signed.{lt_z, lt_z_no, ≤ℤ_refl}
use Rattle.arith.proofs.Polynomials.{kn}
use Rattle.arith.proofs.Rings.{∀₂, ∀₃, ∀₄, by_cert, to, times, ◌⊞◌, ◌⊠◌}
use Rattle.arith.proofs.Integers.{ℤR, ◌≼◌, nn_pos, of_nn}
use Rattle.arith.proofs.IntegerTerms.{zq}
use Rattle.arith.proofs.Sizes.{nat_abs_neg, nat_abs_mul}

pub ≼_refl : (a : ℤ) → a ≼ a
≼_refl a = ≤ℤ_refl a

pub ≼_trans : (a b c : ℤ) → a ≼ b → b ≼ c → a ≼ c
≼_trans = ∀₃ ℤR _ λ ρ. simp zq λ h l. by_cert (to h ⊞ to l) tt

pub ≼-add : (a b c d : ℤ) → a ≼ b → c ≼ d → a +ℤ c ≼ b +ℤ d
≼-add = ∀₄ ℤR _ λ ρ. simp zq λ h l. by_cert (to h ⊞ to l) tt

pub ≼-mul : (a b c : ℤ) → pos 0 ≼ c → a ≼ b → c *ℤ a ≼ c *ℤ b
≼-mul = ∀₃ ℤR _ λ ρ. simp zq λ h l. by_cert (to h ⊠ to l) tt

-- a + 1 ≤ b, or b ≤ a
pub split : (a b : ℤ) → (a +ℤ pos 1 ≼ b) ⊎ (b ≼ a)
split a b = go (b -ℤ (a +ℤ pos 1)) refl
  where
    minus_suc : (n : ℕ) → negsuc n ≡ neg_ℤ (pos n +ℤ pos 1)
    minus_suc n = ap (λ (m : ℕ). neg_ℤ (pos m)) (sym (add-one n))

    low : (a b n : ℤ) → pos 0 ≼ n → b -ℤ (a +ℤ pos 1) ≡ neg_ℤ (n +ℤ pos 1) → b ≼ a
    low = ∀₃ ℤR _ λ ρ. simp zq λ h e. by_cert (to h ⊞ times (kn 0) e) tt

    go : (z : ℤ) → b -ℤ (a +ℤ pos 1) ≡ z → (a +ℤ pos 1 ≼ b) ⊎ (b ≼ a)
    go (pos n) e = inl (of_nn (a +ℤ pos 1) b (subst (λ z. pos 0 ≼ z) (sym e) (nn_pos n)))
    go (negsuc n) e = inr (low a b (pos n) (nn_pos n) (e ∙ minus_suc n))

pub total : (a b : ℤ) → (a ≼ b) ⊎ (b ≼ a)
total a b = go (split a b)
  where
    less : (a b : ℤ) → a +ℤ pos 1 ≼ b → a ≼ b
    less = ∀₂ ℤR _ λ ρ. simp zq λ h. by_cert (to h) tt

    go : (a +ℤ pos 1 ≼ b) ⊎ (b ≼ a) → (a ≼ b) ⊎ (b ≼ a)
    go (inl h) = inl (less a b h)
    go (inr h) = inr h

-- by the test of two signed numbers
pub tested_less : (x y : ℤ) → lt_z x y ≡ true → x ≼ y
tested_less (pos a) (pos b) e = record { le = le→leb a b (omega (arith, ltb-true a b e)) }
tested_less (pos a) (negsuc b) e = absurd (true≢false (sym e))
tested_less (negsuc a) (pos b) e = record { le = tt }
tested_less (negsuc a) (negsuc b) e = record { le = le→leb b a (omega (arith, ltb-true b a e)) }

pub tested_not_less : (x y : ℤ) → lt_z x y ≡ false → y ≼ x
tested_not_less x y e = lt_z_no {a = x} {b = y} (subst (λ c. T (not c)) (sym e) tt)

-- the absolute value
abbrev pub abs : ℤ → ℤ
abs z = pos (nat_abs z)

pub abs_nn : (z : ℤ) → pos 0 ≼ abs z
abs_nn z = nn_pos (nat_abs z)

pub abs_neg : (z : ℤ) → abs (neg_ℤ z) ≡ abs z
abs_neg z = ap pos (nat_abs_neg z)

pub abs_ge : (z : ℤ) → z ≼ abs z
abs_ge (pos n) = ≼_refl (pos n)
abs_ge (negsuc n) = record { le = tt }

pub abs_ge_neg : (z : ℤ) → neg_ℤ z ≼ abs z
abs_ge_neg (pos zero) = ≼_refl (pos 0)
abs_ge_neg (pos (suc n)) = record { le = tt }
abs_ge_neg (negsuc n) = ≼_refl (pos (suc n))

pub abs_le : (z b : ℤ) → z ≼ b → neg_ℤ z ≼ b → abs z ≼ b
abs_le (pos n) b h l = h
abs_le (negsuc n) b h l = l

pub abs_add : (x y : ℤ) → abs (x +ℤ y) ≼ abs x +ℤ abs y
abs_add x y =
    abs_le (x +ℤ y) (abs x +ℤ abs y) (≼-add x (abs x) y (abs y) (abs_ge x) (abs_ge y))
    (subst (λ z. z ≼ abs x +ℤ abs y) (sym (neg_ℤ-+ℤ x y)) (≼-add (neg_ℤ x) (abs x) (neg_ℤ y) (abs y) (abs_ge_neg x) (abs_ge_neg y)))

pub abs_mul : (x y : ℤ) → abs (x *ℤ y) ≡ abs x *ℤ abs y
abs_mul x y = ap pos (nat_abs_mul x y)
