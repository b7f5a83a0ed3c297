-- The whole numbers next to a fraction are what their names say, and how a number is shown to be one of them.
use Prim.Native.Nat.{ℕ, zero, suc, ◌+◌, ◌/◌, ◌<◌}
use mathlib.Core.Logic.{◌⊎◌, inl, inr}
use mathlib.Core.Path.{◌≡◌, ap, subst}
use native.Mathlib.Omega.{arith}
use lib.IntN.{ℤ, pos, negsuc, neg_ℤ, nat_abs, ◌+ℤ◌, ◌*ℤ◌}
use lib.Signed.{shr_z}
use Rattle.arith.specs.Fractions.{Frac, int, negq}
use Rattle.arith.specs.Wholes.{floor, ceiling}
use Rattle.arith.specs.Theorems.{GreatestNotAbove, LeastNotBelow, Wholes}
use Rattle.arith.proofs.Rings.{∀₂, ∀₃, ∀₄, by_cert, contra, to, num, ◌⊞◌, ◌⊠◌}
use Rattle.arith.proofs.Integers.{ℤR, ◌≼◌, antisym}
use Rattle.arith.proofs.IntegerTerms.{zq}
use Rattle.arith.proofs.IntegerOrder.{split}
use Rattle.arith.proofs.Rationals as Q
use Rattle.arith.proofs.Rationals.{ℚR, ℚ, mk, ◌+ℚ◌, ◌≤ℚ◌, int_plus, to-⊑, of-⊑}
use Rattle.arith.proofs.RationalTerms.{qq}
use Rattle.arith.proofs.RationalOrder.{≤ℚ-trans}
use Rattle.arith.proofs.Signs.{le_int}
use Rattle.arith.proofs.RationalRounding.{Down, div_down}

-- the quotient rounded down, also below zero
next_below : (a : ℕ) → neg_ℤ (pos a +ℤ pos 1) ≡ negsuc a
next_below a = let e : a + 1 ≡ suc a = omega arith in ap (λ (n : ℕ). neg_ℤ (pos n)) e

turned : (a c r : ℤ) → Down a c r → Down (neg_ℤ (a +ℤ pos 1)) c (neg_ℤ (r +ℤ pos 1))
turned a c r d = record { low = low a c r d.high; high = high a c r d.low }
  where
    low : (a c r : ℤ) → a +ℤ pos 1 ≼ c *ℤ r +ℤ c → c *ℤ neg_ℤ (r +ℤ pos 1) ≼ neg_ℤ (a +ℤ pos 1)
    low = ∀₃ ℤR _ λ ρ. simp zq λ h. by_cert (to h) tt

    high : (a c r : ℤ) → c *ℤ r ≼ a → neg_ℤ (a +ℤ pos 1) +ℤ pos 1 ≼ c *ℤ neg_ℤ (r +ℤ pos 1) +ℤ c
    high = ∀₃ ℤR _ λ ρ. simp zq λ h. by_cert (to h) tt

quotient : (z : ℤ) (c : ℕ) → 0 < c → Down z (pos c) (shr_z z c)
quotient (pos a) c h = div_down a c h
quotient (negsuc a) c h =
    subst (λ z. Down z (pos c) (negsuc (a / c))) (next_below a)
    (subst (Down (neg_ℤ (pos a +ℤ pos 1)) (pos c)) (next_below (a / c)) (turned (pos a) (pos c) (pos (a / c)) (div_down a c h)))

floored : (z b : ℤ) → pos 1 ≼ b → Down z b (shr_z z (nat_abs b))
floored z (pos zero) h = absurd h.le
floored z (pos (suc n)) h = quotient z (suc n) (omega arith)
floored z (negsuc n) h = absurd h.le

-- the greatest not above
pub greatest_floor : (x : Frac) → GreatestNotAbove x (floor x)
unfolding floor
greatest_floor x =
    let d = floored x.top x.bot x.ok in
    let r = shr_z x.top (nat_abs x.bot) in
    record {
      not_above = record { cross = low x.top x.bot r d.low };
      greatest = λ m l. under (split r m) (λ h. high x.top x.bot r m x.ok d.high h l.cross);
    }
  where
    low : (a b r : ℤ) → b *ℤ r ≼ a → r *ℤ b ≼ a *ℤ pos 1
    low = ∀₃ ℤR _ λ ρ. simp zq λ h. by_cert (to h) tt

    high : (a b r m : ℤ) → pos 1 ≼ b → a +ℤ pos 1 ≼ b *ℤ r +ℤ b → r +ℤ pos 1 ≼ m → m *ℤ b ≼ a *ℤ pos 1 → ⊥
    high = ∀₄ ℤR _ λ ρ. simp zq λ b h l k. contra ((to b ⊞ num 1) ⊠ to l ⊞ to h ⊞ to k) tt

    under : {a b : ℤ} → (a +ℤ pos 1 ≼ b) ⊎ (b ≼ a) → ¬ (a +ℤ pos 1 ≼ b) → b ≼ a
    under (inl h) k = absurd (k h)
    under (inr h) k = h

-- the least not below
pub least_ceiling : (x : Frac) → LeastNotBelow x (ceiling x)
unfolding ceiling
least_ceiling x =
    let g = greatest_floor (negq x) in
    let n = floor (negq x) in
    record {
      not_below = record { cross = low x.top x.bot n g.not_above.cross };
      least = λ m l. back n m (g.greatest (neg_ℤ m) (record { cross = high x.top x.bot m l.cross }));
    }
  where
    low : (a b n : ℤ) → n *ℤ b ≼ neg_ℤ a *ℤ pos 1 → a *ℤ pos 1 ≼ neg_ℤ n *ℤ b
    low = ∀₃ ℤR _ λ ρ. simp zq λ h. by_cert (to h) tt

    high : (a b m : ℤ) → a *ℤ pos 1 ≼ m *ℤ b → neg_ℤ m *ℤ b ≼ neg_ℤ a *ℤ pos 1
    high = ∀₃ ℤR _ λ ρ. simp zq λ h. by_cert (to h) tt

    back : (n m : ℤ) → neg_ℤ m ≼ n → neg_ℤ n ≼ m
    back = ∀₂ ℤR _ λ ρ. simp zq λ h. by_cert (to h) tt

pub wholes : (x : Frac) → Wholes x
wholes x = record { down = greatest_floor x; up = least_ceiling x }

-- a number that is not above, and with 1 more is, is the floor; one that is not below, and with 1 less is, the ceiling
module _ (x : Frac) (n : ℤ) where
  pub floor_is : Q.int n ≤ℚ mk x → ¬ (Q.int n +ℚ Q.int (pos 1) ≤ℚ mk x) → floor x ≡ n
  unfolding Q.int
  floor_is l h = antisym (floor x) n (at (split n (floor x))) ((greatest_floor x).greatest n (to-⊑ (int n) x l))
    where
      at : (n +ℤ pos 1 ≼ floor x) ⊎ (floor x ≼ n) → floor x ≼ n
      at (inl k) =
          let m = subst (λ p. p ≤ℚ Q.int (floor x)) (int_plus n (pos 1)) (le_int (n +ℤ pos 1) (floor x) k) in
          absurd (h (≤ℚ-trans _ (Q.int (floor x)) (mk x) m (of-⊑ (int (floor x)) x (greatest_floor x).not_above)))
      at (inr k) = k

  pub ceiling_is : mk x ≤ℚ Q.int n → ¬ (mk x +ℚ Q.int (pos 1) ≤ℚ Q.int n) → ceiling x ≡ n
  unfolding Q.int
  ceiling_is l h = antisym (ceiling x) n ((least_ceiling x).least n (to-⊑ x (int n) l)) (at (split (ceiling x) n))
    where
      more : (p q r : ℚ) → p ≤ℚ q → q +ℚ Q.int (pos 1) ≤ℚ r → p +ℚ Q.int (pos 1) ≤ℚ r
      more = ∀₃ ℚR _ λ ρ. simp qq λ h l. by_cert (to h ⊞ to l) tt

      at : (ceiling x +ℤ pos 1 ≼ n) ⊎ (n ≼ ceiling x) → n ≼ ceiling x
      at (inl k) =
          let m = subst (λ p. p ≤ℚ Q.int n) (int_plus (ceiling x) (pos 1)) (le_int (ceiling x +ℤ pos 1) n k) in
          absurd (h (more (mk x) (Q.int (ceiling x)) (Q.int n) (of-⊑ x (int (ceiling x)) (least_ceiling x).not_below) m))
      at (inr k) = k
