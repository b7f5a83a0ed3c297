-- The laws of fractions (specs/Fractions): an ordered field up to the equality by cross products. From the algebra over ℤ.
-- A law over three fractions is `F₃ _ λ ρ p q r. simp cross (simp zq (by_ring tt))`: v 0 / v 1, v 2 / v 3, v 4 / v 5, and p q r say that
-- v 1, v 3, v 5 are at least 1.
use mathlib.Core.Path.{◌≡◌, sym, ◌∙◌}
use mathlib.Core.Logic.{◌↔◌, ◌⊎◌, inl, inr}
use mathlib.Core.List.{List, [], ◌∷◌}
use Prim.Native.Nat.{ℕ, zero, suc}
use lib.IntN.{ℤ, pos, negsuc, ◌+ℤ◌, ◌*ℤ◌, *ℤ_comm}
use Rattle.arith.specs.Fractions.{Frac, ◌≈◌, ◌⊑◌, one_le, int, ◌+q◌, ◌*q◌, negq, recip_at, recip}
use Rattle.arith.proofs.Polynomials.{E, v, kp, kn, ◌⊗◌}
use Rattle.arith.proofs.Rings.{X, Le, ∀₁, ∀₂, ∀₄, by_ring, by_cert, by_eqs, over, over_eq, to, times, mul_eq, sq, num, contra, ◌⊞◌}
use Rattle.arith.proofs.Rings.{◌⊠◌, ◌⊹◌}
use Rattle.arith.proofs.Integers.{ℤR, ◌≼◌, nn_pos, antisym}
use Rattle.arith.proofs.IntegerTerms.{zq}
use Rattle.arith.proofs.IntegerOrder.{≼_refl, total}

-- what is proved of all quotients of expressions holds of all fractions
pub un : (ρ : List ℤ) (b : E) → Le ℤR ρ (kp 1) b → pos 1 ≼ X ℤR ρ b
unfolding X
un ρ b p = p.ineq

abbrev pub frac : (ρ : List ℤ) (a b : E) → Le ℤR ρ (kp 1) b → Frac
frac ρ a b p = record { top = X ℤR ρ a; bot = X ℤR ρ b; ok = un ρ b p }

pub ≈-iff : (x y : Frac) → (x ≈ y) ↔ (x.top *ℤ y.bot ≡ y.top *ℤ x.bot)
≈-iff x y = ((λ h. h.cross), (λ h. record { cross = h }))

pub ⊑-iff : (x y : Frac) → (x ⊑ y) ↔ (x.top *ℤ y.bot ≼ y.top *ℤ x.bot)
⊑-iff x y = ((λ h. h.cross), (λ h. record { cross = h }))

pub ruleset cross = (≈-iff, ⊑-iff)

pub F₁ : (C : Frac → Type 0) → ((ρ : List ℤ) (p : Le ℤR ρ (kp 1) (v 1)) → C (frac ρ (v 0) (v 1) p)) → (x : Frac) → C x
unfolding un X
F₁ C f x = f (x.top ∷ x.bot ∷ []) (record { ineq = x.ok })

pub F₂ :
    (C : Frac → Frac → Type 0) →
    ((ρ : List ℤ) (p : Le ℤR ρ (kp 1) (v 1)) (q : Le ℤR ρ (kp 1) (v 3)) → C (frac ρ (v 0) (v 1) p) (frac ρ (v 2) (v 3) q)) →
    (x y : Frac) →
    C x y
unfolding un X
F₂ C f x y = f (x.top ∷ x.bot ∷ y.top ∷ y.bot ∷ []) (record { ineq = x.ok }) (record { ineq = y.ok })

pub F₃ :
    (C : Frac → Frac → Frac → Type 0) →
    ((ρ : List ℤ) (p : Le ℤR ρ (kp 1) (v 1)) (q : Le ℤR ρ (kp 1) (v 3)) (r : Le ℤR ρ (kp 1) (v 5)) →
    C (frac ρ (v 0) (v 1) p) (frac ρ (v 2) (v 3) q) (frac ρ (v 4) (v 5) r)) →
    (x y z : Frac) →
    C x y z
unfolding un X
F₃ C f x y z =
    f (x.top ∷ x.bot ∷ y.top ∷ y.bot ∷ z.top ∷ z.bot ∷ []) (record { ineq = x.ok }) (record { ineq = y.ok })
    (record { ineq = z.ok })

-- the laws
pub ≈-refl : (x : Frac) → x ≈ x
≈-refl = F₁ _ λ ρ p. simp cross (simp zq (by_ring tt))

pub ≈-sym : (x y : Frac) → x ≈ y → y ≈ x
≈-sym = F₂ _ λ ρ p q. simp cross (simp zq λ h. by_eqs (mul_eq (kn 0) h) tt)

pub ≈-trans : (x y z : Frac) → x ≈ y → y ≈ z → x ≈ z
≈-trans = F₃ _ λ ρ p q r. simp cross (simp zq λ h g. over_eq (v 3) (λ l. contra (to q ⊞ to l) tt) (mul_eq (v 5) h ⊹ mul_eq (v 1) g) tt)

pub +q-cong : (x y z : Frac) → x ≈ y → x +q z ≈ y +q z
+q-cong = F₃ _ λ ρ p q r. simp cross (simp zq λ h. by_eqs (mul_eq (v 5 ⊗ v 5) h) tt)

pub *q-cong : (x y z : Frac) → x ≈ y → x *q z ≈ y *q z
*q-cong = F₃ _ λ ρ p q r. simp cross (simp zq λ h. by_eqs (mul_eq (v 4 ⊗ v 5) h) tt)

pub negq_cong : (x y : Frac) → x ≈ y → negq x ≈ negq y
negq_cong = F₂ _ λ ρ p q. simp cross (simp zq λ h. by_eqs (mul_eq (kn 0) h) tt)

pub +q-assoc : (x y z : Frac) → x +q y +q z ≈ x +q (y +q z)
+q-assoc = F₃ _ λ ρ p q r. simp cross (simp zq (by_ring tt))

pub *q-assoc : (x y z : Frac) → x *q y *q z ≈ x *q (y *q z)
*q-assoc = F₃ _ λ ρ p q r. simp cross (simp zq (by_ring tt))

pub +q-comm : (x y : Frac) → x +q y ≈ y +q x
+q-comm = F₂ _ λ ρ p q. simp cross (simp zq (by_ring tt))

pub *q-comm : (x y : Frac) → x *q y ≈ y *q x
*q-comm = F₂ _ λ ρ p q. simp cross (simp zq (by_ring tt))

pub *q-+q : (x y z : Frac) → x *q (y +q z) ≈ x *q y +q x *q z
*q-+q = F₃ _ λ ρ p q r. simp cross (simp zq (by_ring tt))

pub +q-zero : (x : Frac) → int (pos 0) +q x ≈ x
+q-zero = F₁ _ λ ρ p. simp cross (simp zq (by_ring tt))

pub *q-one : (x : Frac) → int (pos 1) *q x ≈ x
*q-one = F₁ _ λ ρ p. simp cross (simp zq (by_ring tt))

pub +q-neg : (x : Frac) → x +q negq x ≈ int (pos 0)
+q-neg = F₁ _ λ ρ p. simp cross (simp zq (by_ring tt))

-- 1 over a fraction above 0
abbrev inv : (x : Frac) → pos 1 ≼ x.top → Frac
inv x h = record { top = x.bot; bot = x.top; ok = h }

pub *q-inv : (x : Frac) (h : pos 1 ≼ x.top) → x *q inv x h ≈ int (pos 1)
*q-inv = F₁ _ λ ρ p h. simp cross (simp zq (by_ring tt))

-- the order
pub ⊑_refl : (x : Frac) → x ⊑ x
⊑_refl = F₁ _ λ ρ p. simp cross (simp zq (by_cert (num 0) tt))

pub ⊑_trans : (x y z : Frac) → x ⊑ y → y ⊑ z → x ⊑ z
⊑_trans =
    F₃ _ λ ρ p q r. simp cross (simp zq λ h g. over (v 3) (λ l. contra (to q ⊞ to l) tt) ((to r ⊞ num 1) ⊠ to h ⊞ (to p ⊞ num 1) ⊠ to g) tt)

pub ≈⊑ : (x y : Frac) → x ≈ y → x ⊑ y
≈⊑ = F₂ _ λ ρ p q. simp cross (simp zq λ h. by_cert (times (kn 0) h) tt)

pub ⊑-antisym : (x y : Frac) → x ⊑ y → y ⊑ x → x ≈ y
⊑-antisym x y h l = record { cross = antisym (x.top *ℤ y.bot) (y.top *ℤ x.bot) h.cross l.cross }

pub ⊑-total : (x y : Frac) → (x ⊑ y) ⊎ (y ⊑ x)
⊑-total x y = go (total (x.top *ℤ y.bot) (y.top *ℤ x.bot))
  where
    go : (x.top *ℤ y.bot ≼ y.top *ℤ x.bot) ⊎ (y.top *ℤ x.bot ≼ x.top *ℤ y.bot) → (x ⊑ y) ⊎ (y ⊑ x)
    go (inl h) = inl (record { cross = h })
    go (inr h) = inr (record { cross = h })

pub +q-mono : (x y z : Frac) → x ⊑ y → x +q z ⊑ y +q z
+q-mono = F₃ _ λ ρ p q r. simp cross (simp zq λ h. by_cert (sq (v 5) ⊠ to h) tt)

pub *q-mono : (x y z : Frac) → int (pos 0) ⊑ z → x ⊑ y → x *q z ⊑ y *q z
*q-mono = F₃ _ λ ρ p q r. simp cross (simp zq λ n h. by_cert (to n ⊠ (to r ⊞ num 1) ⊠ to h) tt)

pub +q-cong-r : (x y z : Frac) → x ≈ y → z +q x ≈ z +q y
+q-cong-r = F₃ _ λ ρ p q r. simp cross (simp zq λ h. by_eqs (mul_eq (v 5 ⊗ v 5) h) tt)

pub *q-cong-r : (x y z : Frac) → x ≈ y → z *q x ≈ z *q y
*q-cong-r = F₃ _ λ ρ p q r. simp cross (simp zq λ h. by_eqs (mul_eq (v 4 ⊗ v 5) h) tt)

-- what the order of the quotients needs
pub nn-+q : (x y : Frac) → int (pos 0) ⊑ x → int (pos 0) ⊑ y → int (pos 0) ⊑ x +q y
nn-+q = F₂ _ λ ρ p q. simp cross (simp zq λ h l. by_cert (to h ⊠ (to q ⊞ num 1) ⊞ to l ⊠ (to p ⊞ num 1)) tt)

pub nn-*q : (x y : Frac) → int (pos 0) ⊑ x → int (pos 0) ⊑ y → int (pos 0) ⊑ x *q y
nn-*q = F₂ _ λ ρ p q. simp cross (simp zq λ h l. by_cert (to h ⊠ to l) tt)

pub nn_sqq : (x : Frac) → int (pos 0) ⊑ x *q x
nn_sqq = F₁ _ λ ρ p. simp cross (simp zq (by_cert (sq (v 0)) tt))

pub to_nnq : (x y : Frac) → x ⊑ y → int (pos 0) ⊑ y +q negq x
to_nnq = F₂ _ λ ρ p q. simp cross (simp zq λ h. by_cert (to h) tt)

pub of_nnq : (x y : Frac) → int (pos 0) ⊑ y +q negq x → x ⊑ y
of_nnq = F₂ _ λ ρ p q. simp cross (simp zq λ h. by_cert (to h) tt)

-- the order respects the equality
pub ⊑-cong : (x y z : Frac) → x ≈ y → x ⊑ z → y ⊑ z
⊑-cong x y z e h = ⊑_trans y x z (≈⊑ y x (≈-sym x y e)) h

pub ⊑-cong-r : (x y z : Frac) → x ≈ y → z ⊑ x → z ⊑ y
⊑-cong-r x y z e h = ⊑_trans z x y h (≈⊑ x y e)

pub recip_mul : (x : Frac) → pos 1 ≼ x.top → x *q recip x ≈ int (pos 1)
unfolding recip
recip_mul x h = go x.top x.bot x.ok h
  where
    go : (a b : ℤ) (p : pos 1 ≼ b) → pos 1 ≼ a → record { top = a; bot = b; ok = p } *q recip_at a b p ≈ int (pos 1)
    go (pos zero) b p h = absurd h.le
    go (pos (suc n)) b p h = *q-inv (record { top = pos (suc n); bot = b; ok = p }) (one_le n)
    go (negsuc n) b p h = absurd h.le

-- of two equal fractions, both or none is above 0
clash : (a b c d : ℤ) → pos 1 ≼ b → pos 1 ≼ d → a *ℤ d ≡ c *ℤ b → pos 1 ≼ a → c ≼ pos 0 → ⊥
clash = ∀₄ ℤR _ λ ρ. simp zq λ p q e h l. contra (to h ⊠ to q ⊞ to h ⊞ to q ⊞ to l ⊠ (to p ⊞ num 1) ⊞ times (kn 0) e) tt

recip_cong_at : (a b c d : ℤ) (p : pos 1 ≼ b) (q : pos 1 ≼ d) → a *ℤ d ≡ c *ℤ b → recip_at a b p ≈ recip_at c d q
recip_cong_at (pos zero) b (pos zero) d p q e = ≈-refl (int (pos 0))
recip_cong_at (pos zero) b (pos (suc m)) d p q e = absurd (clash (pos (suc m)) d (pos 0) b q p (sym e) (one_le m) (≼_refl (pos 0)))
recip_cong_at (pos zero) b (negsuc m) d p q e = ≈-refl (int (pos 0))
recip_cong_at (pos (suc n)) b (pos zero) d p q e = absurd (clash (pos (suc n)) b (pos 0) d p q e (one_le n) (≼_refl (pos 0)))
recip_cong_at (pos (suc n)) b (pos (suc m)) d p q e = record { cross = *ℤ_comm b (pos (suc m)) ∙ sym e ∙ *ℤ_comm (pos (suc n)) d }
recip_cong_at (pos (suc n)) b (negsuc m) d p q e = absurd (clash (pos (suc n)) b (negsuc m) d p q e (one_le n) (record { le = tt }))
recip_cong_at (negsuc n) b (pos zero) d p q e = ≈-refl (int (pos 0))
recip_cong_at (negsuc n) b (pos (suc m)) d p q e = absurd (clash (pos (suc m)) d (negsuc n) b q p (sym e) (one_le m) (record { le = tt }))
recip_cong_at (negsuc n) b (negsuc m) d p q e = ≈-refl (int (pos 0))

pub recip_cong : (x y : Frac) → x ≈ y → recip x ≈ recip y
unfolding recip
recip_cong x y h = recip_cong_at x.top x.bot y.top y.bot x.ok y.ok h.cross

pub int-+q : (a b : ℤ) → int (a +ℤ b) ≈ int a +q int b
int-+q = ∀₂ ℤR _ λ ρ. simp cross (simp zq (by_ring tt))

pub int-*q : (a b : ℤ) → int (a *ℤ b) ≈ int a *q int b
int-*q = ∀₂ ℤR _ λ ρ. simp cross (simp zq (by_ring tt))

pub nn_intq : (n : ℕ) → int (pos 0) ⊑ int (pos n)
nn_intq n = record { cross = zeros (pos n) (nn_pos n) }
  where
    zeros : (z : ℤ) → pos 0 ≼ z → pos 0 *ℤ pos 1 ≼ z *ℤ pos 1
    zeros = ∀₁ ℤR _ λ ρ. simp zq λ h. by_cert (to h) tt

pub recip_nnq : (x : Frac) → int (pos 0) ⊑ recip x
unfolding recip
recip_nnq x = go x.top x.bot x.ok
  where
    go : (a b : ℤ) (p : pos 1 ≼ b) → int (pos 0) ⊑ recip_at a b p
    go (pos zero) b p = ⊑_refl (int (pos 0))
    go (pos (suc n)) b p = record { cross = up b (pos (suc n)) p }
      where
        up : (b n : ℤ) → pos 1 ≼ b → pos 0 *ℤ n ≼ b *ℤ pos 1
        up = ∀₂ ℤR _ λ ρ. simp zq λ h. by_cert (to h) tt
    go (negsuc n) b p = ⊑_refl (int (pos 0))

-- the laws of a positive factor and of 0 < 1
pub one_posq : ¬ (int (pos 1) ⊑ int (pos 0))
one_posq h = h.cross.le

pub cancelq : (m x : Frac) → ¬ (m ⊑ int (pos 0)) → int (pos 0) ⊑ m *q x → int (pos 0) ⊑ x
cancelq m x h l = record { cross = at m.top x.top m.bot x.bot (λ k. h (record { cross = low m.top m.bot k })) l.cross }
  where
    low : (a b : ℤ) → a ≼ pos 0 → a *ℤ pos 1 ≼ pos 0 *ℤ b
    low = ∀₂ ℤR _ λ ρ. simp zq λ h. by_cert (to h) tt

    at : (a c b d : ℤ) → ¬ (a ≼ pos 0) → pos 0 *ℤ (b *ℤ d) ≼ a *ℤ c *ℤ pos 1 → pos 0 *ℤ d ≼ c *ℤ pos 1
    at = ∀₄ ℤR _ λ ρ. simp zq λ h l. over (v 0) h (to l) tt
