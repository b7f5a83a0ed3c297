-- k_3 is continuous: where a formula's difference is 0, so is the formula.
use mathlib.Core.Path.{◌≡◌}
use lib.IntN.{pos}
use Rattle.arith.specs.Fractions.{nat, ◌*q◌}
use Rattle.arith.proofs.Polynomials.{v, ◌⊗◌, ⊖◌}
use Rattle.arith.proofs.Rings.{∀₅, by_eqs, mul_eq}
use Rattle.arith.proofs.Rationals.{ℚR, ℚ, mk, int, ◌-ℚ◌, ◌*ℚ◌, recipℚ}
use Rattle.arith.proofs.RationalTerms.{qq}
use Rattle.arith.proofs.FractionsInRationals.{mk_int, mk_mul, to-≈, of-≈}
use Rattle.roll.specs.ConditionA.{tenths, aft, fore}
use Rattle.roll.specs.Theorems.{Continuous}
use Rattle.roll.proofs.Factor.{aft_mk, fore_mk}

pub continuous : Continuous
continuous L x =
    record {
      at_02 = λ h.
          to-≈ (aft L x) (nat 0)
          (rw (aft_mk (tenths 5) (tenths 2) L x, mk_int (pos 0))
          (before (mk (tenths 5)) (mk (tenths 2)) (mk L) (mk x) (recipℚ (mk (tenths 2) *ℚ mk L))
          (rw (mk_mul (tenths 2) L) at (of-≈ x (tenths 2 *q L) h))));
      at_07 = λ h.
          to-≈ (fore L x) (nat 0)
          (rw (fore_mk (tenths 7) (tenths 3) L x, mk_int (pos 0))
          (past (mk (tenths 7)) (mk (tenths 3)) (mk L) (mk x) (recipℚ (mk (tenths 3) *ℚ mk L))
          (rw (mk_mul (tenths 7) L) at (of-≈ x (tenths 7 *q L) h))));
    }
  where
    before : (a b L x u : ℚ) → x ≡ b *ℚ L → a *ℚ ((b *ℚ L -ℚ x) *ℚ u) ≡ int (pos 0)
    before = ∀₅ ℚR _ λ ρ. simp qq λ h. by_eqs (mul_eq (⊖ (v 0 ⊗ v 4)) h) tt

    past : (a b L x u : ℚ) → x ≡ a *ℚ L → a *ℚ ((x -ℚ a *ℚ L) *ℚ u) ≡ int (pos 0)
    past = ∀₅ ℚR _ λ ρ. simp qq λ h. by_eqs (mul_eq (v 0 ⊗ v 4) h) tt
