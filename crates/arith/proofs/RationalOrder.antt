-- The order of ℚ: strict and not, whole numbers in it, and divisors above zero across it.
use mathlib.Core.Path.{◌≡◌}
use Prim.Native.Nat.{ℕ, ◌≤◌, ◌<◌}
use native.Mathlib.Omega.{arith}
use lib.Dec.{not_T, T_not}
use lib.IntN.{ℤ, pos}
use Rattle.arith.proofs.Polynomials.{v, ⊖◌}
use Rattle.arith.proofs.Rings.{∀₃, ∀₄, by_cert, by_eqs, over, to, times, mul_eq, ◌⊞◌, ◌⊠◌}
use Rattle.arith.proofs.IntegerOmega.{nat_le, le_nat}
use Rattle.arith.proofs.Rationals.{ℚR, ℚ, int, ◌+ℚ◌, ◌*ℚ◌, ◌/ℚ◌, recipℚ, ◌≤ℚ◌, ◌<ℚ◌, leℚ, <→≤, recip_times, recip_nn}
use Rattle.arith.proofs.RationalTerms.{qq}
use Rattle.arith.proofs.Signs.{int_le, le_int, same_le}

-- the strict order
pub lt_of : (p q : ℚ) → ¬ (q ≤ℚ p) → p <ℚ q
lt_of p q h = record { lt = not_T (leℚ q p) (λ t. h (record { le = t })) }

pub lt_not : {p q : ℚ} → p <ℚ q → ¬ (q ≤ℚ p)
lt_not {p} {q} h l = T_not (leℚ q p) h.lt l.le

pub ≤ℚ-trans : (p q r : ℚ) → p ≤ℚ q → q ≤ℚ r → p ≤ℚ r
≤ℚ-trans = ∀₃ ℚR _ λ ρ. simp qq λ h l. by_cert (to h ⊞ to l) tt

pub <ℚ-irrefl : {p : ℚ} → ¬ (p <ℚ p)
<ℚ-irrefl {p} h = lt_not h (same_le p)

pub <ℚ-≤ℚ-trans : {p q r : ℚ} → p <ℚ q → q ≤ℚ r → p <ℚ r
<ℚ-≤ℚ-trans {p} {q} {r} h l = lt_of p r (λ k. lt_not h (≤ℚ-trans q r p l k))

pub ≤ℚ-<ℚ-trans : {p q r : ℚ} → p ≤ℚ q → q <ℚ r → p <ℚ r
≤ℚ-<ℚ-trans {p} {q} {r} h l = lt_of p r (λ k. lt_not l (≤ℚ-trans r p q k h))

pub <ℚ-trans : {p q r : ℚ} → p <ℚ q → q <ℚ r → p <ℚ r
<ℚ-trans h l = <ℚ-≤ℚ-trans h (<→≤ l)

pub <ℚ-add : (p q r : ℚ) → p <ℚ q → p +ℚ r <ℚ q +ℚ r
<ℚ-add p q r h = lt_of (p +ℚ r) (q +ℚ r) (λ k. lt_not h (go p q r k))
  where
    go : (p q r : ℚ) → q +ℚ r ≤ℚ p +ℚ r → q ≤ℚ p
    go = ∀₃ ℚR _ λ ρ. simp qq λ k. by_cert (to k) tt

pub <ℚ-mul : (p q r : ℚ) → int (pos 0) <ℚ r → p <ℚ q → p *ℚ r <ℚ q *ℚ r
<ℚ-mul p q r r0 h = lt_of (p *ℚ r) (q *ℚ r) (λ k. lt_not h (go p q r (lt_not r0) k))
  where
    go : (p q r : ℚ) → ¬ (r ≤ℚ int (pos 0)) → q *ℚ r ≤ℚ p *ℚ r → q ≤ℚ p
    go = ∀₃ ℚR _ λ ρ. simp qq λ h k. over (v 2) h (to k) tt

-- naturals
pub nat_q : (m n : ℕ) → m ≤ n → int (pos m) ≤ℚ int (pos n)
nat_q m n h = le_int (pos m) (pos n) (nat_le m n h)

pub q_nat : (m n : ℕ) → int (pos m) ≤ℚ int (pos n) → m ≤ n
q_nat m n h = le_nat m n (int_le (pos m) (pos n) h)

pub above_0 : (c : ℕ) → 0 < c → int (pos 0) <ℚ int (pos c)
above_0 c h = lt_of (int (pos 0)) (int (pos c)) (λ l. clash (q_nat c 0 l))
  where
    clash : c ≤ 0 → ⊥
    clash x = omega arith

-- z in units of 1 / u
abbrev pub unit : ℕ → ℤ → ℚ
unit u z = int z /ℚ int (pos u)

pub div_times : (p d : ℚ) → int (pos 0) <ℚ d → d *ℚ (p /ℚ d) ≡ p
div_times p d h = go p d (recipℚ d) (recip_times d h)
  where
    go : (p d r : ℚ) → d *ℚ r ≡ int (pos 1) → d *ℚ (p *ℚ r) ≡ p
    go = ∀₃ ℚR _ λ ρ. simp qq λ e. by_eqs (mul_eq (v 0) e) tt

-- a divisor above zero goes to the other side
module _ (p d y : ℚ) (h : int (pos 0) <ℚ d) where
  pub div_le : p ≤ℚ d *ℚ y → p /ℚ d ≤ℚ y
  div_le l = go p d (recipℚ d) y (recip_times d h) (recip_nn d) l
    where
      go : (p d r y : ℚ) → d *ℚ r ≡ int (pos 1) → int (pos 0) ≤ℚ r → p ≤ℚ d *ℚ y → p *ℚ r ≤ℚ y
      go = ∀₄ ℚR _ λ ρ. simp qq λ e r0 l. by_cert (to r0 ⊠ to l ⊞ times (⊖ v 3) e) tt

  pub le_div : d *ℚ y ≤ℚ p → y ≤ℚ p /ℚ d
  le_div l = go p d (recipℚ d) y (recip_times d h) (recip_nn d) l
    where
      go : (p d r y : ℚ) → d *ℚ r ≡ int (pos 1) → int (pos 0) ≤ℚ r → d *ℚ y ≤ℚ p → y ≤ℚ p *ℚ r
      go = ∀₄ ℚR _ λ ρ. simp qq λ e r0 l. by_cert (to r0 ⊠ to l ⊞ times (v 3) e) tt

  pub of_div_le : p /ℚ d ≤ℚ y → p ≤ℚ d *ℚ y
  of_div_le l = go p d (recipℚ d) y (recip_times d h) (<→≤ h) l
    where
      go : (p d r y : ℚ) → d *ℚ r ≡ int (pos 1) → int (pos 0) ≤ℚ d → p *ℚ r ≤ℚ y → p ≤ℚ d *ℚ y
      go = ∀₄ ℚR _ λ ρ. simp qq λ e d0 l. by_cert (to d0 ⊠ to l ⊞ times (v 0) e) tt

  pub of_le_div : y ≤ℚ p /ℚ d → d *ℚ y ≤ℚ p
  of_le_div l = go p d (recipℚ d) y (recip_times d h) (<→≤ h) l
    where
      go : (p d r y : ℚ) → d *ℚ r ≡ int (pos 1) → int (pos 0) ≤ℚ d → y ≤ℚ p *ℚ r → d *ℚ y ≤ℚ p
      go = ∀₄ ℚR _ λ ρ. simp qq λ e d0 l. by_cert (to d0 ⊠ to l ⊞ times (⊖ v 0) e) tt

  pub div_lt : p <ℚ d *ℚ y → p /ℚ d <ℚ y
  div_lt l = lt_of (p /ℚ d) y (λ k. lt_not l (of_le_div k))

  pub lt_div : d *ℚ y <ℚ p → y <ℚ p /ℚ d
  lt_div l = lt_of y (p /ℚ d) (λ k. lt_not l (of_div_le k))

pub unit_times : (u : ℕ) (z : ℤ) → 0 < u → int (pos u) *ℚ unit u z ≡ int z
unit_times u z h = div_times (int z) (int (pos u)) (above_0 u h)
