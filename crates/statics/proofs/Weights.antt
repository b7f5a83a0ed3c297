-- Half the weight above a level, in 2^-18 N, is at most a unit off.
use mathlib.Core.Path.{◌≡◌, refl, sym, ap, ap₂, ◌∙◌}
use mathlib.Core.List.{List, [], ◌∷◌}
use Prim.Native.Nat.{ℕ, ◌*◌, ◌^◌}
use lib.Dec.{lit≤}
use lib.ListN.{drop}
use lib.IntN.{pos}
use Rattle.arith.specs.Fractions.{sumq}
use Rattle.arith.proofs.Polynomials.{v, kp, ◌⊕◌, ◌⊗◌}
use Rattle.arith.proofs.Rings.{∀₁, ∀₃, ∀₄, ∀₅, by_ring, by_eqs, mul_eq, ◌⊹◌}
use Rattle.arith.proofs.Rationals.{ℚR, ℚ, mk, int, ◌+ℚ◌, ◌*ℚ◌, ◌/ℚ◌, recipℚ, int_plus, int_times}
use Rattle.arith.proofs.RationalTerms.{qq}
use Rattle.arith.proofs.Signs.{div_eq}
use Rattle.arith.proofs.RationalOrder.{above_0}
use Rattle.arith.proofs.FractionsInRationals.{mk_add, mk_int}
use Rattle.springs.proofs.Chain.{natℚ}
use Rattle.sheet.specs.declared.Tier.{Tier}
use Rattle.statics.specs.Loads.{weight, vertical_force}
use Rattle.statics.specs.Posts.{weight_above}
use Rattle.statics.specs.Inner.WholeNumbers.{vertical_units, half_weight}
use Rattle.statics.proofs.Errors.{Off}
use Rattle.statics.proofs.Scales.{recip_nat, newtons, newtons_whole, quot_off}

-- F_V of 1 kg and a thousandth of g
unitary : ℚ
unitary = natℚ 1 /ℚ natℚ 2 *ℚ (natℚ 981 /ℚ natℚ 100) *ℚ recipℚ (natℚ 1000)

module _ (acceleration : Tier → ℕ) where
  vertical_force_q :
      (t : Tier) →
      mk (vertical_force acceleration t)
      ≡ natℚ 1 /ℚ natℚ 2 *ℚ (natℚ t.mass *ℚ (natℚ 981 /ℚ natℚ 100)) *ℚ (natℚ (acceleration t) /ℚ natℚ 1000)
  unfolding vertical_force weight ◌*ℚ◌ recipℚ int
  vertical_force_q t = refl

  vertical_force_is : (t : Tier) → mk (vertical_force acceleration t) ≡ natℚ (t.mass * acceleration t) *ℚ unitary
  unfolding unitary
  vertical_force_is t =
      vertical_force_q t
      ∙ go (natℚ 1 /ℚ natℚ 2) (natℚ t.mass) (natℚ 981 /ℚ natℚ 100) (natℚ (acceleration t)) (recipℚ (natℚ 1000))
      ∙ ap (λ z. z *ℚ unitary) (sym (int_times (pos t.mass) (pos (acceleration t))))
    where
      go : (h m g a r : ℚ) → h *ℚ (m *ℚ g) *ℚ (a *ℚ r) ≡ m *ℚ a *ℚ (h *ℚ g *ℚ r)
      go = ∀₅ ℚR _ λ ρ. simp qq (by_ring tt)

  units_is : (ts : List Tier) → mk (sumq (vertical_force acceleration) ts) ≡ natℚ (vertical_units acceleration ts) *ℚ unitary
  unfolding sumq vertical_units
  units_is [] = mk_int (pos 0) ∙ none unitary
    where
      none : (u : ℚ) → natℚ 0 ≡ natℚ 0 *ℚ u
      none = ∀₁ ℚR _ λ ρ. simp qq (by_ring tt)
  units_is (t ∷ ts) =
      mk_add (vertical_force acceleration t) (sumq (vertical_force acceleration) ts)
      ∙ ap₂ ◌+ℚ◌ (vertical_force_is t) (units_is ts)
      ∙ join (natℚ (t.mass * acceleration t)) (natℚ (vertical_units acceleration ts)) unitary
      ∙ ap (λ z. z *ℚ unitary) (sym (int_plus (pos (t.mass * acceleration t)) (pos (vertical_units acceleration ts))))
    where
      join : (x y u : ℚ) → x *ℚ u +ℚ y *ℚ u ≡ (x +ℚ y) *ℚ u
      join = ∀₃ ℚR _ λ ρ. simp qq (by_ring tt)

  -- 981 / 400,000 a kilogram and thousandth
  half_is :
      (ts : List Tier) →
      mk (sumq (vertical_force acceleration) ts) /ℚ natℚ 2
      ≡ newtons (pos (981 * vertical_units acceleration ts * 2 ^ 18)) /ℚ natℚ 400000
  unfolding unitary
  half_is ts =
      let L = vertical_units acceleration ts in
      div_eq (mk (sumq (vertical_force acceleration) ts) /ℚ natℚ 2) (newtons (pos (981 * L * 2 ^ 18))) (natℚ 400000)
      (above_0 400000 (lit≤ tt))
      (ap (λ z. z /ℚ natℚ 2 *ℚ natℚ 400000) (units_is ts)
      ∙ go (natℚ L) (recipℚ (natℚ 2)) (recipℚ (natℚ 100)) (recipℚ (natℚ 1000)) (recip_nat 2 (lit≤ tt)) (recip_nat 100 (lit≤ tt))
      (recip_nat 1000 (lit≤ tt))
      ∙ sym (newtons_whole (981 * L) ∙ int_times (pos 981) (pos L)))
    where
      go :
          (L a b c : ℚ) →
          natℚ 2 *ℚ a ≡ natℚ 1 →
          natℚ 100 *ℚ b ≡ natℚ 1 →
          natℚ 1000 *ℚ c ≡ natℚ 1 →
          L *ℚ (natℚ 1 *ℚ a *ℚ (natℚ 981 *ℚ b) *ℚ c) *ℚ a *ℚ natℚ 400000 ≡ natℚ 981 *ℚ L
      go =
          ∀₄ ℚR _ λ ρ. simp qq λ i j k.
          by_eqs
          (mul_eq (kp 981 ⊗ v 0 ⊗ (kp 2 ⊗ v 1 ⊕ kp 1) ⊗ (kp 100 ⊗ v 2) ⊗ (kp 1000 ⊗ v 3)) i ⊹ mul_eq
          (kp 981 ⊗ v 0 ⊗ (kp 1000 ⊗ v 3)) j ⊹ mul_eq (kp 981 ⊗ v 0) k)
          tt

  pub weight_off :
      (ts : List Tier) (i : ℕ) →
      Off (newtons (pos 1)) (newtons (pos (half_weight acceleration ts i))) (mk (weight_above acceleration ts i) /ℚ natℚ 2)
  unfolding half_weight
  weight_off ts i = rw (half_is (drop i ts)) (quot_off 400000 (lit≤ tt) (pos (981 * vertical_units acceleration (drop i ts) * 2 ^ 18)))
