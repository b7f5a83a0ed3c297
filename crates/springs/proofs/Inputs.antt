-- How a caller shows that its inputs stand for an exact chain (Near): quotients rounded down, their sums, and more slack.
use mathlib.Core.Path.{sym, subst}
use Prim.Native.Nat.{ℕ, ◌+◌, ◌<◌, ◌≤◌}
use lib.IntN.{pos}
use Rattle.arith.specs.Fractions.{Frac, nat, ◌+q◌, ◌*q◌, ◌/q◌, ◌≈◌}
use Rattle.arith.specs.Inner.Rounding.{scaled_down}
use Rattle.arith.proofs.Rings.{∀₁, ∀₄, ∀₅, ∀₇, by_cert, to, num, ◌⊞◌}
use Rattle.arith.proofs.Rationals.{ℚR, ℚ, mk, ◌+ℚ◌, ◌*ℚ◌, ◌≤ℚ◌, of-⊑, to-⊑, int_plus}
use Rattle.arith.proofs.RationalTerms.{qq}
use Rattle.arith.proofs.RationalOrder.{nat_q}
use Rattle.arith.proofs.FractionsInRationals.{mk_int, mk_add, of-≈, toℚ}
use Rattle.arith.proofs.OrderedField.{⊏-⊑}
use Rattle.arith.proofs.RoundingLaws.{scaled_units_low, scaled_units_high}
use Rattle.springs.specs.Inner.Promise.{Rounded}
use Rattle.springs.proofs.Chain.{natℚ}

-- over ℚ
module _ (m a x : ℕ) (y : Frac) where
  pub rounded_low : Rounded m a x y → natℚ x ≤ℚ natℚ m *ℚ mk y
  rounded_low r = simp toℚ at (of-⊑ (nat x) (nat m *q y) r.low)

  pub rounded_high : Rounded m a x y → natℚ m *ℚ mk y ≤ℚ natℚ x +ℚ natℚ a
  rounded_high r = subst (λ z. natℚ m *ℚ mk y ≤ℚ z) (int_plus (pos x) (pos a)) (simp toℚ at (of-⊑ (nat m *q y) (nat (x + a)) r.high))

  rounded : natℚ x ≤ℚ natℚ m *ℚ mk y → natℚ m *ℚ mk y ≤ℚ natℚ x +ℚ natℚ a → Rounded m a x y
  rounded l h = record {
    low = to-⊑ (nat x) (nat m *q y) (simp toℚ l);
    high = to-⊑ (nat m *q y) (nat (x + a)) (simp toℚ (subst (λ z. natℚ m *ℚ mk y ≤ℚ z) (sym (int_plus (pos x) (pos a))) h));
  }

-- a quotient of whole numbers
pub rounded_quotient : (x m c : ℕ) → 0 < c → Rounded m 1 (scaled_down x m c) (nat x /q nat c)
rounded_quotient x m c h = record {
  low = scaled_units_low x m c h;
  high = ⊏-⊑ (nat m *q (nat x /q nat c)) (nat (scaled_down x m c + 1)) (scaled_units_high x m c h);
}

pub rounded_none : (m : ℕ) → Rounded m 0 0 (nat 0)
rounded_none m =
    rounded m 0 0 (nat 0) (subst (λ z. natℚ 0 ≤ℚ natℚ m *ℚ z) (sym (mk_int (pos 0))) (low (natℚ m)))
    (subst (λ z. natℚ m *ℚ z ≤ℚ natℚ 0 +ℚ natℚ 0) (sym (mk_int (pos 0))) (high (natℚ m)))
  where
    low : (m : ℚ) → natℚ 0 ≤ℚ m *ℚ natℚ 0
    low = ∀₁ ℚR _ λ ρ. simp qq (by_cert (num 0) tt)

    high : (m : ℚ) → m *ℚ natℚ 0 ≤ℚ natℚ 0 +ℚ natℚ 0
    high = ∀₁ ℚR _ λ ρ. simp qq (by_cert (num 0) tt)

pub rounded_sum : (m a b x z : ℕ) (y w : Frac) → Rounded m a x y → Rounded m b z w → Rounded m (a + b) (x + z) (y +q w)
rounded_sum m a b x z y w r s =
    rounded m (a + b) (x + z) (y +q w)
    (rw (mk_add y w, int_plus (pos x) (pos z))
    (low (natℚ m) (natℚ x) (natℚ z) (mk y) (mk w) (rounded_low m a x y r) (rounded_low m b z w s)))
    (rw (mk_add y w, int_plus (pos x) (pos z), int_plus (pos a) (pos b))
    (high (natℚ m) (natℚ a) (natℚ b) (natℚ x) (natℚ z) (mk y) (mk w) (rounded_high m a x y r) (rounded_high m b z w s)))
  where
    low : (m x z y w : ℚ) → x ≤ℚ m *ℚ y → z ≤ℚ m *ℚ w → x +ℚ z ≤ℚ m *ℚ (y +ℚ w)
    low = ∀₅ ℚR _ λ ρ. simp qq λ h l. by_cert (to h ⊞ to l) tt

    high : (m a b x z y w : ℚ) → m *ℚ y ≤ℚ x +ℚ a → m *ℚ w ≤ℚ z +ℚ b → m *ℚ (y +ℚ w) ≤ℚ x +ℚ z +ℚ (a +ℚ b)
    high = ∀₇ ℚR _ λ ρ. simp qq λ h l. by_cert (to h ⊞ to l) tt

pub rounded_more : (m a b x : ℕ) (y : Frac) → a ≤ b → Rounded m a x y → Rounded m b x y
rounded_more m a b x y h r =
    rounded m b x y (rounded_low m a x y r) (go (natℚ m *ℚ mk y) (natℚ x) (natℚ a) (natℚ b) (rounded_high m a x y r) (nat_q a b h))
  where
    go : (u x a b : ℚ) → u ≤ℚ x +ℚ a → a ≤ℚ b → u ≤ℚ x +ℚ b
    go = ∀₄ ℚR _ λ ρ. simp qq λ h l. by_cert (to h ⊞ to l) tt

pub rounded_same : (m a x : ℕ) (y z : Frac) → y ≈ z → Rounded m a x y → Rounded m a x z
rounded_same m a x y z e r =
    rounded m a x z (subst (λ u. natℚ x ≤ℚ natℚ m *ℚ u) (of-≈ y z e) (rounded_low m a x y r))
    (subst (λ u. natℚ m *ℚ u ≤ℚ natℚ x +ℚ natℚ a) (of-≈ y z e) (rounded_high m a x y r))
