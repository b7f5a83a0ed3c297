-- The athwart stiffness of a lash within document 01's limits: above zero, and at most 155,000 N/mm.
use Prim.Native.Nat.{ℕ, ◌+◌, ◌*◌, ◌/◌, ◌^◌, ◌≤◌}
use native.Mathlib.Nat.{mul-le-mul, mul-le-mul_left, mul-le-mul_right, mul-pos, le-div_iff_mul-le, div-le_of_le-mul}
use native.Mathlib.Omega.{arith}
use lib.IntN.{ℤ, pos, ◌+ℤ◌, ◌*ℤ◌}
use Rattle.arith.specs.Fractions.{nat, ◌⊏◌}
use Rattle.arith.proofs.Polynomials.{v, kp, ◌⊖◌}
use Rattle.arith.proofs.Rings.{∀₃, by_cert, to, sq, num, contra, ◌⊞◌, ◌⊠◌}
use Rattle.arith.proofs.Integers.{ℤR, ◌≼◌, nn_pos}
use Rattle.arith.proofs.IntegerTerms.{zq}
use Rattle.arith.proofs.IntegerOmega.{nat_le, le_nat}
use Rattle.arith.proofs.Rationals.{ℚR, ℚ, ◌*ℚ◌, ◌≤ℚ◌, nn_int}
use Rattle.arith.proofs.RationalTerms.{qq}
use Rattle.arith.proofs.RationalOrder.{nat_q, lt_of}
use Rattle.arith.proofs.FractionsInRationals.{mk_int, to-⊏}
use Rattle.springs.proofs.Chain.{natℚ}
use Rattle.sheet.specs.declared.Lash.{Lash}
use Rattle.statics.specs.Lashes.{lash_length, athwart_part}
use Rattle.statics.specs.Inner.WholeNumbers.{stiffness_of}
use Rattle.sheet.specs.Inner.Limits.{LashLimits}
use Rattle.statics.proofs.LashLength.{length_least, length_above, length_ratio}
use Rattle.statics.proofs.LashForces.{stiffness, stiffness_low}

module _ {n : ℕ} (l : Lash) (f : LashLimits n l) where
  -- L³ ≤ 42³ LY³
  cube_most : lash_length l * lash_length l * lash_length l ≤ l.modulus * l.area * (l.ly * l.ly) * 2 ^ 22
  cube_most =
      go (lash_length l) l.ly (l.modulus * l.area) (mul-le-mul (mul-le-mul ratio ratio) ratio)
      (mul-le-mul_left (l.ly * l.ly) f.ly_most) (mul-le-mul_right (l.ly * l.ly) (mul-le-mul f.modulus f.area))
    where
      ratio : lash_length l ≤ 42 * l.ly
      ratio = length_ratio f

      go : (L y E : ℕ) →
          L * L * L ≤ 42 * y * (42 * y) * (42 * y) →
          y * y * y ≤ y * y * 10000 →
          10000 * 50 * (y * y) ≤ E * (y * y) →
          L * L * L ≤ E * (y * y) * 2 ^ 22
      go L y E h a b = omega arith

  stiffness_some : 1 ≤ stiffness_of l
  unfolding stiffness_of
  stiffness_some =
      (le-div_iff_mul-le (mul-pos (mul-pos (length_above f) (length_above f)) (length_above f))).1 (omega (arith, cube_most))

  pub stiffness_above : nat 0 ⊏ athwart_part l (nat 1)
  stiffness_above =
      to-⊏ (nat 0) (athwart_part l (nat 1))
      (rw (mk_int (pos 0))
      (lt_of (natℚ 0) (stiffness l)
      (λ h.
      none (natℚ (stiffness_of l)) (natℚ (2 ^ 22)) (stiffness l) (nat_q 1 (stiffness_of l) stiffness_some) (nn_int (2 ^ 22))
      (stiffness_low l (length_above f)) h)))
    where
      none : (x s y : ℚ) → natℚ 1 ≤ℚ x → natℚ 0 ≤ℚ s → x ≤ℚ s *ℚ y → y ≤ℚ natℚ 0 → ⊥
      none = ∀₃ ℚR _ λ ρ. simp qq λ a b h l. contra (to a ⊞ to h ⊞ to b ⊠ to l) tt

  -- 200,000,000 S ≤ 155,000 L³ where S + 500² ≤ L²
  under_cube : (E S L : ℤ) →
      E ≼ pos 200000000 →
      pos 0 ≼ S →
      S +ℤ pos 250000 ≼ L *ℤ L →
      pos 0 ≼ L →
      E *ℤ S ≼ pos 155000 *ℤ (L *ℤ L *ℤ L)
  under_cube =
      ∀₃ ℤR _ λ ρ. simp zq λ e s h l.
      by_cert
      (
      num 200000000 ⊠ to h
      ⊞ to e ⊠ to s
      ⊞ num 155000 ⊠ (sq (v 2 ⊖ kp 860) ⊠ (to l ⊞ num 429))
      ⊞ num 105000 ⊠ sq (v 2 ⊖ kp 1270)
      ⊞ num 100000 ⊠ to l
      )
      tt

  pub stiffness_most : stiffness_of l ≤ 155000 * 2 ^ 22
  unfolding stiffness_of
  stiffness_most =
      let L = lash_length l in
      let E = l.modulus * l.area in
      let S = l.ly * l.ly in
      scaled (E * S) (L * L * L)
      (le_nat (E * S) (155000 * (L * L * L))
      (under_cube (pos E) (pos S) (pos L) (nat_le E 200000000 (mul-le-mul f.modulus_most f.area_most)) (nn_pos S)
      (nat_le (S + 250000) (L * L) (omega (arith, (length_least l).enough, mul-le-mul f.lz f.lz))) (nn_pos L)))
    where
      scaled : (x c : ℕ) → x ≤ 155000 * c → x * 2 ^ 22 / c ≤ 155000 * 2 ^ 22
      scaled x c h = div-le_of_le-mul c (omega arith)
