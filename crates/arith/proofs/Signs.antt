-- Absolute values and signs of ℤ and ℚ, and the way between whole numbers and ℚ. From the algebra.
use mathlib.Core.Path.{◌≡◌, refl, sym, ap, subst, ◌∙◌}
use mathlib.Core.Bool.{Bool, true, false, not, cond}
use Prim.Native.Nat.{zero, suc}
use lib.Dec.{T}
use lib.IntN.{ℤ, pos, negsuc, neg_ℤ, ◌*ℤ◌}
use Rattle.arith.proofs.Polynomials.{v, ◌⊖◌, ⊖◌}
use Rattle.arith.proofs.Rings.{ORing, ∀₁, ∀₂, ∀₃, ∀₄, by_ring, by_cert, by_eqs, to, mul_eq, num, ◌⊞◌, ◌⊠◌, ◌⊹◌}
use Rattle.arith.proofs.Integers.{ℤR, ◌≼◌, antisym}
use Rattle.arith.proofs.IntegerTerms.{zq}
use Rattle.arith.proofs.IntegerOrder.{abs, abs_nn, abs_ge, abs_ge_neg}
use Rattle.arith.proofs.Rationals.{ℚR, ℚ, ◌+ℚ◌, ◌-ℚ◌, ◌*ℚ◌, ◌/ℚ◌, negℚ, recipℚ, int, ◌≤ℚ◌, ◌<ℚ◌, leℚ}
use Rattle.arith.proofs.Rationals.{flip, recip_times, absℚ, to-⊑}
use Rattle.arith.proofs.Rationals.{of-⊑}
use Rattle.arith.specs.Fractions as F
use Rattle.arith.proofs.RationalTerms.{qq}

-- an absolute value of an ordered ring, and for each p a number that can stand for its sign
pub record Signs (R : ORing) : Type 0 where
  pub abs : R.C → R.C
  pub nn : (x : R.C) → R.leq (R.int (pos 0)) (abs x)
  pub sg : R.C → R.C
  pub hit : (p : R.C) → R.times (sg p) p ≡ abs p
  pub back : (p : R.C) → R.times (sg p) (abs p) ≡ p
  pub low : (p x : R.C) → R.leq (R.times (sg p) x) (abs x)

-- ℤ
abbrev pub sg : ℤ → ℤ
sg (pos zero) = pos 0
sg (pos (suc n)) = pos 1
sg (negsuc n) = negsuc 0

one_z : (x : ℤ) → pos 1 *ℤ x ≡ x
one_z = ∀₁ ℤR _ λ ρ. simp zq (by_ring tt)

minus_z : (x : ℤ) → negsuc 0 *ℤ x ≡ neg_ℤ x
minus_z = ∀₁ ℤR _ λ ρ. simp zq (by_ring tt)

zero_le_z : (x a : ℤ) → pos 0 ≼ a → pos 0 *ℤ x ≼ a
zero_le_z = ∀₂ ℤR _ λ ρ. simp zq λ h. by_cert (to h) tt

one_le_z : (x a : ℤ) → x ≼ a → pos 1 *ℤ x ≼ a
one_le_z = ∀₂ ℤR _ λ ρ. simp zq λ h. by_cert (to h) tt

minus_le_z : (x a : ℤ) → neg_ℤ x ≼ a → negsuc 0 *ℤ x ≼ a
minus_le_z = ∀₂ ℤR _ λ ρ. simp zq λ h. by_cert (to h) tt

pub hit_z : (e : ℤ) → sg e *ℤ e ≡ abs e
hit_z (pos zero) = refl
hit_z (pos (suc n)) = one_z (pos (suc n))
hit_z (negsuc n) = minus_z (negsuc n)

pub back_z : (e : ℤ) → sg e *ℤ abs e ≡ e
back_z (pos zero) = refl
back_z (pos (suc n)) = one_z (pos (suc n))
back_z (negsuc n) = minus_z (pos (suc n))

pub low_z : (e x : ℤ) → sg e *ℤ x ≼ abs x
low_z (pos zero) x = zero_le_z x (abs x) (abs_nn x)
low_z (pos (suc n)) x = one_le_z x (abs x) (abs_ge x)
low_z (negsuc n) x = minus_le_z x (abs x) (abs_ge_neg x)

abbrev pub ℤS : Signs ℤR
ℤS = record { abs = abs; nn = abs_nn; sg = sg; hit = hit_z; back = back_z; low = low_z }

-- ℚ
up : (p : ℚ) → int (pos 0) ≤ℚ p → negℚ p ≤ℚ p
up = ∀₁ ℚR _ λ ρ. simp qq λ h. by_cert (to h ⊞ to h) tt

down : (p : ℚ) → p ≤ℚ int (pos 0) → p ≤ℚ negℚ p
down = ∀₁ ℚR _ λ ρ. simp qq λ h. by_cert (to h ⊞ to h) tt

neg_nn : (p : ℚ) → p ≤ℚ int (pos 0) → int (pos 0) ≤ℚ negℚ p
neg_nn = ∀₁ ℚR _ λ ρ. simp qq λ h. by_cert (to h) tt

pub same_le : (p : ℚ) → p ≤ℚ p
same_le = ∀₁ ℚR _ λ ρ. simp qq (by_cert (num 0) tt)

one_q : (p : ℚ) → int (pos 1) *ℚ p ≡ p
one_q = ∀₁ ℚR _ λ ρ. simp qq (by_ring tt)

minus_q : (p : ℚ) → int (negsuc 0) *ℚ p ≡ negℚ p
minus_q = ∀₁ ℚR _ λ ρ. simp qq (by_ring tt)

minus_minus_q : (p : ℚ) → int (negsuc 0) *ℚ negℚ p ≡ p
minus_minus_q = ∀₁ ℚR _ λ ρ. simp qq (by_ring tt)

one_le_q : (x a : ℚ) → x ≤ℚ a → int (pos 1) *ℚ x ≤ℚ a
one_le_q = ∀₂ ℚR _ λ ρ. simp qq λ h. by_cert (to h) tt

minus_le_q : (x a : ℚ) → negℚ x ≤ℚ a → int (negsuc 0) *ℚ x ≤ℚ a
minus_le_q = ∀₂ ℚR _ λ ρ. simp qq λ h. by_cert (to h) tt

-- the test `0 ≤ p` and what it decides, by cases
pub cases :
    (p : ℚ) (c : Bool) →
    leℚ (int (pos 0)) p ≡ c →
    (Z : Bool → Type 0) →
    (int (pos 0) ≤ℚ p → Z true) →
    (p ≤ℚ int (pos 0) → Z false) →
    Z c
cases p true e Z f g = f (record { le = subst T (sym e) tt })
cases p false e Z f g = g (flip (int (pos 0)) p (subst (λ b. T (not b)) (sym e) tt))

pub on : (p : ℚ) (Z : Bool → Type 0) → (int (pos 0) ≤ℚ p → Z true) → (p ≤ℚ int (pos 0) → Z false) → Z (leℚ (int (pos 0)) p)
on p Z f g = cases p (leℚ (int (pos 0)) p) refl Z f g

unfoldable pub sgq : ℚ → ℚ
sgq p = cond (leℚ (int (pos 0)) p) (int (pos 1)) (int (negsuc 0))

pub nn_q : (p : ℚ) → int (pos 0) ≤ℚ absℚ p
unfolding absℚ
nn_q p = on p (λ c. int (pos 0) ≤ℚ cond c p (negℚ p)) (λ h. h) (λ h. neg_nn p h)

pub ge_q : (p : ℚ) → p ≤ℚ absℚ p
unfolding absℚ
ge_q p = on p (λ c. p ≤ℚ cond c p (negℚ p)) (λ h. same_le p) (λ h. down p h)

pub ge_neg_q : (p : ℚ) → negℚ p ≤ℚ absℚ p
unfolding absℚ
ge_neg_q p = on p (λ c. negℚ p ≤ℚ cond c p (negℚ p)) (λ h. up p h) (λ h. same_le (negℚ p))

pub hit_q : (p : ℚ) → sgq p *ℚ p ≡ absℚ p
unfolding absℚ sgq
hit_q p = on p (λ c. cond c (int (pos 1)) (int (negsuc 0)) *ℚ p ≡ cond c p (negℚ p)) (λ h. one_q p) (λ h. minus_q p)

pub back_q : (p : ℚ) → sgq p *ℚ absℚ p ≡ p
unfolding absℚ sgq
back_q p = on p (λ c. cond c (int (pos 1)) (int (negsuc 0)) *ℚ cond c p (negℚ p) ≡ p) (λ h. one_q p) (λ h. minus_minus_q p)

pub low_q : (p x : ℚ) → sgq p *ℚ x ≤ℚ absℚ x
unfolding sgq
low_q p x =
    on p (λ c. cond c (int (pos 1)) (int (negsuc 0)) *ℚ x ≤ℚ absℚ x) (λ h. one_le_q x (absℚ x) (ge_q x))
    (λ h. minus_le_q x (absℚ x) (ge_neg_q x))

abbrev pub ℚS : Signs ℚR
ℚS = record { abs = absℚ; nn = nn_q; sg = sgq; hit = hit_q; back = back_q; low = low_q }

-- the absolute value of ℚ: its two cases, negation, products, and the triangle inequality
module _ (p b : ℚ) where
  pub absℚ_le : p ≤ℚ b → negℚ p ≤ℚ b → absℚ p ≤ℚ b
  unfolding absℚ
  absℚ_le h l = on p (λ c. cond c p (negℚ p) ≤ℚ b) (λ k. h) (λ k. l)

pub absℚ_nn : (p : ℚ) → int (pos 0) ≤ℚ p → absℚ p ≡ p
absℚ_nn p h = ℚR.antisym (absℚ p) p (absℚ_le p p (same_le p) (up p h)) (ge_q p)

pub absℚ_np : (p : ℚ) → p ≤ℚ int (pos 0) → absℚ p ≡ negℚ p
absℚ_np p h = ℚR.antisym (absℚ p) (negℚ p) (absℚ_le p (negℚ p) (down p h) (same_le (negℚ p))) (ge_neg_q p)

pub absℚ_neg : (p : ℚ) → absℚ (negℚ p) ≡ absℚ p
absℚ_neg p =
    ℚR.antisym (absℚ (negℚ p)) (absℚ p)
    (absℚ_le (negℚ p) (absℚ p) (ge_neg_q p) (turn p (absℚ p) (ge_q p)))
    (absℚ_le p (absℚ (negℚ p)) (back p (absℚ (negℚ p)) (ge_neg_q (negℚ p))) (ge_q (negℚ p)))
  where
    turn : (p a : ℚ) → p ≤ℚ a → negℚ (negℚ p) ≤ℚ a
    turn = ∀₂ ℚR _ λ ρ. simp qq λ h. by_cert (to h) tt

    back : (p a : ℚ) → negℚ (negℚ p) ≤ℚ a → p ≤ℚ a
    back = ∀₂ ℚR _ λ ρ. simp qq λ h. by_cert (to h) tt

pub absℚ_add : (p q : ℚ) → absℚ (p +ℚ q) ≤ℚ absℚ p +ℚ absℚ q
absℚ_add p q =
    absℚ_le (p +ℚ q) (absℚ p +ℚ absℚ q) (plus p q (absℚ p) (absℚ q) (ge_q p) (ge_q q))
    (minus p q (absℚ p) (absℚ q) (ge_neg_q p) (ge_neg_q q))
  where
    plus : (p q a b : ℚ) → p ≤ℚ a → q ≤ℚ b → p +ℚ q ≤ℚ a +ℚ b
    plus = ∀₄ ℚR _ λ ρ. simp qq λ h l. by_cert (to h ⊞ to l) tt

    minus : (p q a b : ℚ) → negℚ p ≤ℚ a → negℚ q ≤ℚ b → negℚ (p +ℚ q) ≤ℚ a +ℚ b
    minus = ∀₄ ℚR _ λ ρ. simp qq λ h l. by_cert (to h ⊞ to l) tt

pub absℚ_sub : (p q : ℚ) → absℚ (p -ℚ q) ≤ℚ absℚ p +ℚ absℚ q
absℚ_sub p q = subst (λ z. absℚ (p -ℚ q) ≤ℚ absℚ p +ℚ z) (absℚ_neg q) (absℚ_add p (negℚ q))

pub absℚ_between : (p q r : ℚ) → absℚ (p -ℚ r) ≤ℚ absℚ (p -ℚ q) +ℚ absℚ (q -ℚ r)
absℚ_between p q r = subst (λ z. absℚ z ≤ℚ absℚ (p -ℚ q) +ℚ absℚ (q -ℚ r)) (go p q r) (absℚ_add (p -ℚ q) (q -ℚ r))
  where
    go : (p q r : ℚ) → (p -ℚ q) +ℚ (q -ℚ r) ≡ p -ℚ r
    go = ∀₃ ℚR _ λ ρ. simp qq (by_ring tt)

-- a product by the signs of its factors
down_r : (p q : ℚ) → int (pos 0) ≤ℚ p → q ≤ℚ int (pos 0) → p *ℚ q ≤ℚ int (pos 0)
down_r = ∀₂ ℚR _ λ ρ. simp qq λ h l. by_cert (to h ⊠ to l) tt

neg_r : (p q : ℚ) → negℚ (p *ℚ q) ≡ p *ℚ negℚ q
neg_r = ∀₂ ℚR _ λ ρ. simp qq (by_ring tt)

neg_both : (p q : ℚ) → p *ℚ q ≡ negℚ p *ℚ negℚ q
neg_both = ∀₂ ℚR _ λ ρ. simp qq (by_ring tt)

mul_nn : (p q : ℚ) → int (pos 0) ≤ℚ p → absℚ (p *ℚ q) ≡ p *ℚ absℚ q
mul_nn p q h =
    on q (λ c. absℚ (p *ℚ q) ≡ p *ℚ absℚ q)
    (λ l. rw (absℚ_nn q l) (absℚ_nn (p *ℚ q) (ℚR.nn_times p q h l)))
    (λ l. rw (absℚ_np q l) (absℚ_np (p *ℚ q) (down_r p q h l) ∙ neg_r p q))

pub absℚ_mul : (p q : ℚ) → absℚ (p *ℚ q) ≡ absℚ p *ℚ absℚ q
absℚ_mul p q =
    on p (λ c. absℚ (p *ℚ q) ≡ absℚ p *ℚ absℚ q)
    (λ h. rw (absℚ_nn p h) (mul_nn p q h))
    (λ h. rw (absℚ_np p h) (ap absℚ (neg_both p q) ∙ mul_nn (negℚ p) (negℚ q) (neg_nn p h) ∙ ap (λ z. negℚ p *ℚ z) (absℚ_neg q)))

-- from ℚ back to ℤ, as a statement on a program's numbers wants it
units : (a b : ℤ) → a *ℤ pos 1 ≼ b *ℤ pos 1 → a ≼ b
units = ∀₂ ℤR _ λ ρ. simp zq λ h. by_cert (to h) tt

tinu : (a b : ℤ) → a ≼ b → a *ℤ pos 1 ≼ b *ℤ pos 1
tinu = ∀₂ ℤR _ λ ρ. simp zq λ h. by_cert (to h) tt

pub int_le : (a b : ℤ) → int a ≤ℚ int b → a ≼ b
unfolding int
int_le a b h = units a b (to-⊑ (F.int a) (F.int b) h).cross

pub le_int : (a b : ℤ) → a ≼ b → int a ≤ℚ int b
unfolding int
le_int a b h = of-⊑ (F.int a) (F.int b) (record { cross = tinu a b h })

pub int_inj : (a b : ℤ) → int a ≡ int b → a ≡ b
int_inj a b e =
    antisym a b (int_le a b (subst (λ z. int a ≤ℚ z) e (same_le (int a)))) (int_le b a (subst (λ z. z ≤ℚ int a) e (same_le (int a))))

-- p = a / d where p d = a
pub div_eq : (p a d : ℚ) → int (pos 0) <ℚ d → p *ℚ d ≡ a → p ≡ a /ℚ d
div_eq p a d h e = go p a d (recipℚ d) e (recip_times d h)
  where
    go : (p a d r : ℚ) → p *ℚ d ≡ a → d *ℚ r ≡ int (pos 1) → p ≡ a *ℚ r
    go = ∀₄ ℚR _ λ ρ. simp qq λ e f. by_eqs (mul_eq (v 3) e ⊹ mul_eq (⊖ v 0) f) tt
