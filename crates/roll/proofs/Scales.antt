-- What is given, as fractions in its unit: times the unit's parts it is the whole number that is given.
use Prim.Native.Nat.{ℕ, ◌<◌}
use mathlib.Core.Path.{◌≡◌, sym, ap, ◌∙◌}
use native.Mathlib.Omega.{arith}
use lib.IntN.{ℤ, pos, nat_abs, ◌-ℤ◌}
use Rattle.arith.specs.Fractions as F
use Rattle.arith.specs.Fractions.{nat, absq, ◌≈◌, ◌-q◌, ◌/q◌}
use Rattle.arith.proofs.Rings.{∀₃, by_ring}
use Rattle.arith.proofs.Rationals.{ℚR, ℚ, mk, int, ◌-ℚ◌, ◌*ℚ◌, ◌≤ℚ◌, recipℚ, recip_nn, absℚ}
use Rattle.arith.proofs.RationalTerms.{qq}
use Rattle.arith.proofs.RationalOrder.{above_0, div_times}
use Rattle.arith.proofs.Signs.{absℚ_mul, absℚ_nn}
use Rattle.arith.proofs.FractionsInRationals.{mk_abs, to-≈, toℚ}
use Rattle.roll.specs.ConditionA.{ten_thousandths, hundredths, tenths, metres}
use Rattle.roll.proofs.Rounding.{int_minus}

-- z over n
scaled : (z : ℤ) (n : ℕ) → 0 < n → int (pos n) *ℚ mk (F.int z /q nat n) ≡ int z
scaled z n h = simp toℚ (div_times (int z) (int (pos n)) (above_0 n h))

pub ten_thousandths_lem : (n : ℕ) → int (pos 10000) *ℚ mk (ten_thousandths n) ≡ int (pos n)
ten_thousandths_lem n = scaled (pos n) 10000 (omega arith)

pub in_hundredths : (n : ℕ) → int (pos 100) *ℚ mk (hundredths n) ≡ int (pos n)
in_hundredths n = scaled (pos n) 100 (omega arith)

pub in_tenths : (n : ℕ) → int (pos 10) *ℚ mk (tenths n) ≡ int (pos n)
in_tenths n = scaled (pos n) 10 (omega arith)

pub in_metres : (z : ℤ) → int (pos 1000) *ℚ mk (metres z) ≡ int z
in_metres z = scaled z 1000 (omega arith)

-- the size of a length
size_int : (z : ℤ) → absℚ (int z) ≡ int (pos (nat_abs z))
unfolding int
size_int z = sym (mk_abs (F.int z))

size_over : (z : ℤ) (r : ℚ) → int (pos 0) ≤ℚ r → absℚ (int z *ℚ r) ≡ int (pos (nat_abs z)) *ℚ r
size_over z r h = absℚ_mul (int z) r ∙ ap (λ q. q *ℚ absℚ r) (size_int z) ∙ ap (λ q. int (pos (nat_abs z)) *ℚ q) (absℚ_nn r h)

pub size_metres : (z : ℤ) → absq (metres z) ≈ metres (pos (nat_abs z))
size_metres z =
    to-≈ (absq (metres z)) (metres (pos (nat_abs z))) (simp toℚ (size_over z (recipℚ (int (pos 1000))) (recip_nn (int (pos 1000)))))

pub apart_metres : (a b : ℤ) → absq (metres a -q metres b) ≈ metres (pos (nat_abs (a -ℤ b)))
apart_metres a b =
    let r = recipℚ (int (pos 1000)) in
    to-≈ (absq (metres a -q metres b)) (metres (pos (nat_abs (a -ℤ b))))
    (simp toℚ
    (ap absℚ (together (int a) (int b) r ∙ ap (λ q. q *ℚ r) (sym (int_minus a b))) ∙ size_over (a -ℤ b) r (recip_nn (int (pos 1000)))))
  where
    together : (a b r : ℚ) → a *ℚ r -ℚ b *ℚ r ≡ (a -ℚ b) *ℚ r
    together = ∀₃ ℚR _ λ ρ. simp qq (by_ring tt)
