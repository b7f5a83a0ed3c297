-- The forces of a lash by its athwart stiffness k: athwart part k D, tension k D L / LY, vertical part k D LZ / LY; and k rounded down.
use mathlib.Core.Path.{◌≡◌, refl, sym, ap, ap₂, ◌∙◌}
use Prim.Native.Nat.{ℕ, ◌+◌, ◌*◌, ◌-◌, ◌^◌, ◌<◌}
use native.Mathlib.Nat.{mul-pos}
use lib.IntN.{pos}
use Rattle.arith.specs.Fractions.{Frac, nat, ◌*q◌}
use Rattle.arith.proofs.Polynomials.{v, ◌⊗◌, ⊖◌}
use Rattle.arith.proofs.Rings.{∀₂, ∀₅, ∀₇, by_ring, by_eqs, to, mul_eq, part, ◌⊞◌, ◌⊹◌}
use Rattle.arith.proofs.Rationals.{ℚR, ℚ, mk, int, ◌+ℚ◌, ◌*ℚ◌, ◌/ℚ◌, recipℚ, ◌≤ℚ◌, int_times, int_plus, nn_int, to-⊑}
use Rattle.arith.proofs.RationalTerms.{qq}
use Rattle.arith.proofs.Signs.{div_eq}
use Rattle.arith.proofs.RationalOrder.{above_0}
use Rattle.arith.proofs.RationalRounding.{scaled_down_lem, scaled_low, scaled_high}
use Rattle.arith.proofs.FractionsInRationals.{toℚ}
use Rattle.springs.specs.Inner.Promise.{Rounded}
use Rattle.springs.proofs.Chain.{natℚ}
use Rattle.sheet.specs.declared.Lash.{Lash}
use Rattle.statics.specs.Lashes.{lash_length, pull, athwart_part, vertical_part}
use Rattle.statics.specs.Inner.WholeNumbers.{stiffness_of}
use Rattle.statics.proofs.Scales.{recip_nat}

-- the athwart stiffness: the athwart part at a shift of 1 mm
abbrev pub stiffness : Lash → ℚ
stiffness l = mk (athwart_part l (nat 1))

module _ (l : Lash) where
  E : ℚ
  E = natℚ l.modulus *ℚ natℚ l.area

  per_length : ℚ
  per_length = recipℚ (natℚ (lash_length l))

  per_square : ℚ
  per_square = recipℚ (natℚ (lash_length l * lash_length l))

  -- document 01's formulas in ℚ
  pull_q : (D : Frac) → mk (pull l D) ≡ E *ℚ natℚ l.ly *ℚ mk D *ℚ per_square
  unfolding pull ◌*ℚ◌ recipℚ int E per_square
  pull_q D = refl

  athwart_q : (D : Frac) → mk (athwart_part l D) ≡ E *ℚ natℚ l.ly *ℚ mk D *ℚ per_square *ℚ natℚ l.ly *ℚ per_length
  unfolding pull athwart_part ◌*ℚ◌ recipℚ int E per_length per_square
  athwart_q D = refl

  vertical_q : (D : Frac) → mk (vertical_part l D) ≡ E *ℚ natℚ l.ly *ℚ mk D *ℚ per_square *ℚ natℚ l.lz *ℚ per_length
  unfolding pull vertical_part ◌*ℚ◌ recipℚ int E per_length per_square
  vertical_q D = refl

  stiffness_q : stiffness l ≡ E *ℚ natℚ l.ly *ℚ natℚ 1 *ℚ per_square *ℚ natℚ l.ly *ℚ per_length
  unfolding int
  stiffness_q = athwart_q (nat 1)

  pub athwart_is : (D : Frac) → mk (athwart_part l D) ≡ stiffness l *ℚ mk D
  athwart_is D = athwart_q D ∙ go E (natℚ l.ly) (mk D) per_square per_length ∙ ap (λ k. k *ℚ mk D) (sym stiffness_q)
    where
      go : (E y D s r : ℚ) → E *ℚ y *ℚ D *ℚ s *ℚ y *ℚ r ≡ E *ℚ y *ℚ natℚ 1 *ℚ s *ℚ y *ℚ r *ℚ D
      go = ∀₅ ℚR _ λ ρ. simp qq (by_ring tt)

unit_length : (l : Lash) → 0 < lash_length l → natℚ (lash_length l) *ℚ per_length l ≡ natℚ 1
unfolding per_length
unit_length l long = recip_nat (lash_length l) long

module _ (l : Lash) (long : 0 < lash_length l) (wide : 0 < l.ly) where
  pub pull_is : (D : Frac) → mk (pull l D) ≡ stiffness l *ℚ mk D *ℚ (natℚ (lash_length l) /ℚ natℚ l.ly)
  pull_is D =
      pull_q l D
      ∙ go (E l) (natℚ l.ly) (mk D) (per_square l) (per_length l) (natℚ (lash_length l)) (recipℚ (natℚ l.ly)) (unit_length l long)
      (recip_nat l.ly wide)
      ∙ ap (λ k. k *ℚ mk D *ℚ (natℚ (lash_length l) /ℚ natℚ l.ly)) (sym (stiffness_q l))
    where
      go :
          (E y D s r L q : ℚ) →
          L *ℚ r ≡ natℚ 1 →
          y *ℚ q ≡ natℚ 1 →
          E *ℚ y *ℚ D *ℚ s ≡ E *ℚ y *ℚ natℚ 1 *ℚ s *ℚ y *ℚ r *ℚ D *ℚ (L *ℚ q)
      go =
          ∀₇ ℚR _ λ ρ. simp qq λ a b. by_eqs
          (mul_eq (⊖ (v 0 ⊗ v 1 ⊗ v 2 ⊗ v 3 ⊗ v 1 ⊗ v 6)) a ⊹ mul_eq (⊖ (v 0 ⊗ v 1 ⊗ v 2 ⊗ v 3)) b) tt

  pub vertical_is : (D : Frac) → mk (vertical_part l D) ≡ stiffness l *ℚ mk D *ℚ (natℚ l.lz /ℚ natℚ l.ly)
  vertical_is D =
      vertical_q l D
      ∙ go (E l) (natℚ l.ly) (mk D) (per_square l) (natℚ l.lz) (per_length l) (recipℚ (natℚ l.ly)) (recip_nat l.ly wide)
      ∙ ap (λ k. k *ℚ mk D *ℚ (natℚ l.lz /ℚ natℚ l.ly)) (sym (stiffness_q l))
    where
      go :
          (E y D s z r q : ℚ) →
          y *ℚ q ≡ natℚ 1 →
          E *ℚ y *ℚ D *ℚ s *ℚ z *ℚ r ≡ E *ℚ y *ℚ natℚ 1 *ℚ s *ℚ y *ℚ r *ℚ D *ℚ (z *ℚ q)
      go = ∀₇ ℚR _ λ ρ. simp qq λ b. by_eqs (mul_eq (⊖ (v 0 ⊗ v 1 ⊗ v 2 ⊗ v 3 ⊗ v 4 ⊗ v 5)) b) tt

-- the stiffness that the check computes with, in 2^-22 N/mm, is k rounded down
module _ (l : Lash) (long : 0 < lash_length l) where
  numerator : ℕ
  numerator = l.modulus * l.area * (l.ly * l.ly)

  square : ℕ
  square = lash_length l * lash_length l

  cube : ℕ
  cube = lash_length l * lash_length l * lash_length l

  square_above : 0 < square
  unfolding square
  square_above = mul-pos long long

  cube_above : 0 < cube
  unfolding cube square
  cube_above = mul-pos square_above long

  square_is : natℚ square ≡ natℚ (lash_length l) *ℚ natℚ (lash_length l)
  unfolding square
  square_is = int_times (pos (lash_length l)) (pos (lash_length l))

  cube_is : natℚ cube ≡ natℚ (lash_length l) *ℚ natℚ (lash_length l) *ℚ natℚ (lash_length l)
  unfolding cube square
  cube_is = int_times (pos square) (pos (lash_length l)) ∙ ap (λ z. z *ℚ natℚ (lash_length l)) square_is

  unit_square : natℚ (lash_length l) *ℚ natℚ (lash_length l) *ℚ per_square l ≡ natℚ 1
  unfolding per_square square
  unit_square = ap (λ z. z *ℚ recipℚ (natℚ square)) (sym square_is) ∙ recip_nat square square_above

  numerator_is : natℚ numerator ≡ E l *ℚ (natℚ l.ly *ℚ natℚ l.ly)
  unfolding numerator E
  numerator_is =
      int_times (pos (l.modulus * l.area)) (pos (l.ly * l.ly))
      ∙ ap₂ ◌*ℚ◌ (int_times (pos l.modulus) (pos l.area)) (int_times (pos l.ly) (pos l.ly))

  stiffness_is : stiffness l ≡ natℚ numerator /ℚ natℚ cube
  stiffness_is =
      div_eq (stiffness l) (natℚ numerator) (natℚ cube) (above_0 cube cube_above)
      (ap₂ ◌*ℚ◌ (stiffness_q l) cube_is
      ∙ go (E l) (natℚ l.ly) (natℚ (lash_length l)) (per_length l) (per_square l) (unit_length l long) unit_square
      ∙ sym numerator_is)
    where
      go :
          (E y l r s : ℚ) →
          l *ℚ r ≡ natℚ 1 →
          l *ℚ l *ℚ s ≡ natℚ 1 →
          E *ℚ y *ℚ natℚ 1 *ℚ s *ℚ y *ℚ r *ℚ (l *ℚ l *ℚ l) ≡ E *ℚ (y *ℚ y)
      go = ∀₅ ℚR _ λ ρ. simp qq λ a b. by_eqs (mul_eq (v 0 ⊗ v 1 ⊗ v 1 ⊗ v 2 ⊗ v 2 ⊗ v 4) a ⊹ mul_eq (v 0 ⊗ v 1 ⊗ v 1) b) tt

  pub stiffness_low : natℚ (stiffness_of l) ≤ℚ natℚ (2 ^ 22) *ℚ stiffness l
  unfolding stiffness_of numerator cube
  stiffness_low =
      rw stiffness_is
      (scaled_low (pos numerator) (pos (2 ^ 22)) (above_0 cube cube_above) (scaled_down_lem numerator (2 ^ 22) cube cube_above))

  pub stiffness_high : natℚ (2 ^ 22) *ℚ stiffness l ≤ℚ natℚ (stiffness_of l) +ℚ natℚ 1
  unfolding stiffness_of numerator cube
  stiffness_high =
      rw stiffness_is
      (scaled_high (pos numerator) (pos (2 ^ 22)) (above_0 cube cube_above) (scaled_down_lem numerator (2 ^ 22) cube cube_above))

  pub stiffness_nn : natℚ 0 ≤ℚ stiffness l
  stiffness_nn = go (stiffness l) (natℚ (stiffness_of l)) (nn_int (stiffness_of l)) stiffness_low
    where
      go : (k l : ℚ) → natℚ 0 ≤ℚ l → l ≤ℚ natℚ (2 ^ 22) *ℚ k → natℚ 0 ≤ℚ k
      go = ∀₂ ℚR _ λ ρ. simp qq λ h l. part (2 ^ 22 - 1) (to h ⊞ to l) tt

  pub stiffness_rounded : Rounded (2 ^ 22) 1 (stiffness_of l) (athwart_part l (nat 1))
  stiffness_rounded =
      record {
        low = to-⊑ (nat (stiffness_of l)) (nat (2 ^ 22) *q athwart_part l (nat 1)) (simp toℚ stiffness_low);
        high =
            to-⊑ (nat (2 ^ 22) *q athwart_part l (nat 1)) (nat (stiffness_of l + 1))
            (simp toℚ (rw (int_plus (pos (stiffness_of l)) (pos 1)) stiffness_high));
      }
