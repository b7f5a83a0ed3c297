-- Rounding in ℚ: a whole number that is a quotient rounded down or up, beside the quotient.
use mathlib.Core.Path.{◌≡◌, subst}
use Prim.Native.Nat.{ℕ, suc, ◌+◌, ◌*◌, ◌-◌, ◌/◌, ◌≤◌, ◌<◌}
use native.Mathlib.Omega.{arith}
use native.Mathlib.Nat.{div-add-mod', mul_comm, mod-lt}
use lib.IntN.{ℤ, pos, negsuc, neg_ℤ, ◌+ℤ◌, ◌*ℤ◌}
use Rattle.arith.specs.Inner.Rounding.{scaled_down, rounded_up, rounded_up_z}
use Rattle.arith.proofs.Polynomials.{v, ◌⊗◌, ⊖◌}
use Rattle.arith.proofs.Rings.{∀₃, ∀₄, ∀₅, by_cert, to, times, contra, ◌⊞◌, ◌⊠◌}
use Rattle.arith.proofs.Integers.{ℤR, ◌≼◌}
use Rattle.arith.proofs.IntegerTerms.{zq}
use Rattle.arith.proofs.IntegerOmega.{nat_le}
use Rattle.arith.proofs.Rationals.{ℚR, ℚ, int, ◌+ℚ◌, ◌*ℚ◌, ◌/ℚ◌, recipℚ, ◌≤ℚ◌, ◌<ℚ◌, <→≤, recip_times}
use Rattle.arith.proofs.Rationals.{recip_nn, int_plus, int_times}
use Rattle.arith.proofs.RationalTerms.{qq}
use Rattle.arith.proofs.RationalOrder.{lt_of, div_le, le_div, div_lt}
use Rattle.arith.proofs.Signs.{le_int}

-- r is x / c rounded down, and rounded up
pub record Down (x c r : ℤ) : Type 0 where
  pub low : c *ℤ r ≼ x
  pub high : x +ℤ pos 1 ≼ c *ℤ r +ℤ c

pub record Up (x c r : ℤ) : Type 0 where
  pub low : x ≼ c *ℤ r
  pub high : c *ℤ r +ℤ pos 1 ≼ x +ℤ c

-- the same in ℚ
pub down_low : {x c r : ℤ} → Down x c r → int c *ℚ int r ≤ℚ int x
down_low {x} {c} {r} d = simp int_times at (le_int (c *ℤ r) x d.low)

pub down_high : {x c r : ℤ} → Down x c r → int x +ℚ int (pos 1) ≤ℚ int c *ℚ int r +ℚ int c
down_high {x} {c} {r} d = simp (int_times, int_plus) at (le_int (x +ℤ pos 1) (c *ℤ r +ℤ c) d.high)

pub up_low : {x c r : ℤ} → Up x c r → int x ≤ℚ int c *ℚ int r
up_low {x} {c} {r} d = simp int_times at (le_int x (c *ℤ r) d.low)

pub up_high : {x c r : ℤ} → Up x c r → int c *ℚ int r +ℚ int (pos 1) ≤ℚ int x +ℚ int c
up_high {x} {c} {r} d = simp (int_times, int_plus) at (le_int (c *ℤ r +ℤ pos 1) (x +ℤ c) d.high)

-- beside the quotient: r ≤ x / c < r + 1 of one rounded down, x / c ≤ r < x / c + 1 of one rounded up
module _ {x c r : ℤ} (c0 : int (pos 0) <ℚ int c) where
  pub down_le : Down x c r → int r ≤ℚ int x /ℚ int c
  down_le d = le_div (int x) (int c) (int r) c0 (down_low d)

  pub down_lt : Down x c r → int x /ℚ int c <ℚ int r +ℚ int (pos 1)
  down_lt d = div_lt (int x) (int c) (int r +ℚ int (pos 1)) c0 (below (int x) (int c) (int r) (down_high d))
    where
      go : (x c r : ℚ) → x +ℚ int (pos 1) ≤ℚ c *ℚ r +ℚ c → c *ℚ (r +ℚ int (pos 1)) ≤ℚ x → ⊥
      go = ∀₃ ℚR _ λ ρ. simp qq λ h l. contra (to h ⊞ to l) tt

      below : (x c r : ℚ) → x +ℚ int (pos 1) ≤ℚ c *ℚ r +ℚ c → x <ℚ c *ℚ (r +ℚ int (pos 1))
      below x c r h = lt_of x (c *ℚ (r +ℚ int (pos 1))) (go x c r h)

  pub up_le : Up x c r → int x /ℚ int c ≤ℚ int r
  up_le u = div_le (int x) (int c) (int r) c0 (up_low u)

  pub up_lt : Up x c r → int r <ℚ int x /ℚ int c +ℚ int (pos 1)
  up_lt u =
      lt_of (int r) (int x /ℚ int c +ℚ int (pos 1))
      (go (int x) (int c) (recipℚ (int c)) (int r) (recip_times (int c) c0) (<→≤ c0) (up_high u))
    where
      go :
          (x c q r : ℚ) →
          c *ℚ q ≡ int (pos 1) →
          int (pos 0) ≤ℚ c →
          c *ℚ r +ℚ int (pos 1) ≤ℚ x +ℚ c →
          x *ℚ q +ℚ int (pos 1) ≤ℚ r →
          ⊥
      go = ∀₄ ℚR _ λ ρ. simp qq λ e c0 h l. contra (to c0 ⊠ to l ⊞ to h ⊞ times (v 0) e) tt

-- the library's division rounds down, and the roundings of specs/Rounding go up
div_parts : (x c : ℕ) → 0 < c → (c * (x / c) ≤ x) × (x + 1 ≤ c * (x / c) + c)
div_parts x c h = (
  omega (arith, div-add-mod' x c, mul_comm c (x / c)),
  omega (arith, div-add-mod' x c, mul_comm c (x / c), mod-lt x h),
)

pub div_down : (x c : ℕ) → 0 < c → Down (pos x) (pos c) (pos (x / c))
div_down x c h =
    record {
      low = nat_le (c * (x / c)) x (div_parts x c h).0;
      high = nat_le (x + 1) (c * (x / c) + c) (div_parts x c h).1;
    }

pub scaled_down_lem : (x m c : ℕ) → 0 < c → Down (pos x *ℤ pos m) (pos c) (pos (scaled_down x m c))
scaled_down_lem x m c h = div_down (x * m) c h

pub ceil_up : (x c : ℕ) → 0 < c → Up (pos x) (pos c) (pos (rounded_up x c))
ceil_up x c h =
    let r = rounded_up x c in
    let p = div_parts (x + (c - 1)) c h in
    let l : x ≤ c * r = omega (arith, p.1) in
    let u : c * r + 1 ≤ x + c = omega (arith, p.0) in
    record { low = nat_le x (c * r) l; high = nat_le (c * r + 1) (x + c) u }

neg_up : (x c r : ℤ) → Down x c r → Up (neg_ℤ x) c (neg_ℤ r)
neg_up x c r d = record { low = low x c r d.low; high = high x c r d.high }
  where
    low : (x c r : ℤ) → c *ℤ r ≼ x → neg_ℤ x ≼ c *ℤ neg_ℤ r
    low = ∀₃ ℤR _ λ ρ. simp zq λ h. by_cert (to h) tt

    high : (x c r : ℤ) → x +ℤ pos 1 ≼ c *ℤ r +ℤ c → c *ℤ neg_ℤ r +ℤ pos 1 ≼ neg_ℤ x +ℤ c
    high = ∀₃ ℤR _ λ ρ. simp zq λ h. by_cert (to h) tt

pub ceil_up_z : (z : ℤ) (d : ℕ) → 0 < d → Up z (pos d) (rounded_up_z z d)
unfolding rounded_up_z
ceil_up_z (pos n) d h = ceil_up n d h
ceil_up_z (negsuc n) d h = neg_up (pos (suc n)) (pos d) (pos (suc n / d)) (div_down (suc n) d h)

-- x / c in units of 1 / u, rounded down: at most one unit short
module _ (x u : ℤ) {c r : ℤ} (c0 : int (pos 0) <ℚ int c) (d : Down (x *ℤ u) c r) where
  pub scaled_low : int r ≤ℚ int u *ℚ (int x /ℚ int c)
  scaled_low =
      go (int x) (int u) (int c) (recipℚ (int c)) (int r) (recip_times (int c) c0) (recip_nn (int c))
      (subst (λ y. int c *ℚ int r ≤ℚ y) (int_times x u) (down_low d))
    where
      go : (x u c q r : ℚ) → c *ℚ q ≡ int (pos 1) → int (pos 0) ≤ℚ q → c *ℚ r ≤ℚ x *ℚ u → r ≤ℚ u *ℚ (x *ℚ q)
      go = ∀₅ ℚR _ λ ρ. simp qq λ e q0 h. by_cert (to q0 ⊠ to h ⊞ times (v 4) e) tt

  pub scaled_lt : int u *ℚ (int x /ℚ int c) <ℚ int r +ℚ int (pos 1)
  scaled_lt =
      lt_of (int u *ℚ (int x /ℚ int c)) (int r +ℚ int (pos 1))
      (go (int x) (int u) (int c) (recipℚ (int c)) (int r) (recip_times (int c) c0) (<→≤ c0)
      (subst (λ y. y +ℚ int (pos 1) ≤ℚ int c *ℚ int r +ℚ int c) (int_times x u) (down_high d)))
    where
      go :
          (x u c q r : ℚ) →
          c *ℚ q ≡ int (pos 1) →
          int (pos 0) ≤ℚ c →
          x *ℚ u +ℚ int (pos 1) ≤ℚ c *ℚ r +ℚ c →
          r +ℚ int (pos 1) ≤ℚ u *ℚ (x *ℚ q) →
          ⊥
      go = ∀₅ ℚR _ λ ρ. simp qq λ e c0 h l. contra (to c0 ⊠ to l ⊞ to h ⊞ times (⊖ (v 0 ⊗ v 1)) e) tt

  pub scaled_high : int u *ℚ (int x /ℚ int c) ≤ℚ int r +ℚ int (pos 1)
  scaled_high = <→≤ scaled_lt
