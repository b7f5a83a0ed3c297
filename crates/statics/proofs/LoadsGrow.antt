-- Level loads in fractions, for any share from 0 to 1 and any factor not below zero: none is below zero, and none is less under
-- heavier boxes.
use mathlib.Core.Path.{◌≡◌, sym, ap}
use mathlib.Core.List.{List}
use Prim.Native.Nat.{suc, ◌*◌, ◌≤◌}
use native.Mathlib.Nat.{mul-le-mul, le_of_eq}
use native.Mathlib.Omega.{arith}
use lib.ListN.{get_or}
use lib.IntN.{pos}
use Rattle.arith.specs.Fractions.{nat, ◌*q◌}
use Rattle.arith.proofs.Rings.{∀₂, ∀₅, ∀₆, ∀₈, by_cert, part, to, times, num, ◌⊞◌, ◌⊠◌}
use Rattle.arith.proofs.Polynomials.{v, kp, kn, ◌⊖◌, ⊖◌}
use Rattle.arith.proofs.Rationals.{ℚR, ℚ, mk, ◌+ℚ◌, ◌-ℚ◌, ◌*ℚ◌, ◌≤ℚ◌, nn_int, to-⊑, of-⊑}
use Rattle.arith.proofs.RationalTerms.{qq}
use Rattle.arith.proofs.RationalOrder.{nat_q}
use Rattle.arith.proofs.FractionsInRationals.{mk_int}
use Rattle.springs.specs.Equations.{load_at}
use Rattle.springs.proofs.Chain.{natℚ}
use Rattle.sheet.specs.declared.Tier.{Tier}
use Rattle.sheet.specs.Layout.{blank_tier}
use Rattle.statics.specs.declared.LoadRule.{LoadRule}
use Rattle.statics.specs.Loads.{StandsFor, half, weight, thousandths, transverse, box_length, wind, Rule}
use Rattle.statics.specs.Ends.{chain_tiers}
use Rattle.sheet.specs.Ends.{End}
use Rattle.statics.specs.Theorems.{Proper, HeavierTier, HeavierTiers, NoWindwardLoad, LoadsGrow}
use Rattle.statics.specs.Inner.WholeNumbers.{wind_units}
use Rattle.statics.proofs.WholeNumbers.{times_q}
use Rattle.statics.proofs.LevelLoads.{half_weight_times, transverse_mk, wind_times, between, load_between, half_times}

module _ (rule : Rule) (p : Proper rule) where
  abbrev S : ℚ
  S = mk rule.share

  abbrev F : Tier → ℚ
  F t = mk (transverse rule.factor t)

  share_least : natℚ 0 ≤ℚ S
  share_least = rw (mk_int (pos 0)) at (of-⊑ (nat 0) rule.share p.share_least)

  share_most : S ≤ℚ natℚ 1
  share_most = rw (mk_int (pos 1)) at (of-⊑ rule.share (nat 1) p.share_most)

  factor_least : natℚ 0 ≤ℚ mk rule.factor
  factor_least = rw (mk_int (pos 0)) at (of-⊑ (nat 0) rule.factor p.factor_least)

  -- F grows with the mass, and is not below zero
  abbrev base : Tier → ℚ
  base t = mk (half *q weight t *q thousandths t.aT)

  base_least : (t : Tier) → natℚ 0 ≤ℚ base t
  base_least t = go (base t) (natℚ (981 * (t.mass * t.aT))) (half_weight_times t t.aT) (nn_int (981 * (t.mass * t.aT)))
    where
      go : (x y : ℚ) → natℚ 200000 *ℚ x ≡ y → natℚ 0 ≤ℚ y → natℚ 0 ≤ℚ x
      go = ∀₂ ℚR _ λ ρ. simp qq λ e h. part 199999 (to h ⊞ times (kp 1) e) tt

  force_least : (t : Tier) → natℚ 0 ≤ℚ F t
  force_least t = rw (transverse_mk rule.factor t) (go (base t) (mk rule.factor) (base_least t) factor_least)
    where
      go : (x y : ℚ) → natℚ 0 ≤ℚ x → natℚ 0 ≤ℚ y → natℚ 0 ≤ℚ x *ℚ y
      go = ∀₂ ℚR _ λ ρ. simp qq λ h l. by_cert (to h ⊠ to l) tt

  wind_least : (t : Tier) → natℚ 0 ≤ℚ mk (wind t)
  wind_least t = go (mk (wind t)) (natℚ (wind_units t)) (wind_times t) (nn_int (wind_units t))
    where
      go : (x y : ℚ) → natℚ 50000 *ℚ x ≡ y → natℚ 0 ≤ℚ y → natℚ 0 ≤ℚ x
      go = ∀₂ ℚR _ λ ρ. simp qq λ e h. part 49999 (to h ⊞ times (kp 1) e) tt

  between_least : (t u : Tier) → natℚ 0 ≤ℚ between rule t u
  unfolding between
  between_least t u =
      go S (mk half) (F t) (mk (wind t)) (F u) (mk (wind u)) share_least share_most half_times (force_least t) (wind_least t)
      (force_least u) (wind_least u)
    where
      go : (S h F P G O : ℚ) →
          natℚ 0 ≤ℚ S →
          S ≤ℚ natℚ 1 →
          natℚ 2 *ℚ h ≡ natℚ 1 →
          natℚ 0 ≤ℚ F →
          natℚ 0 ≤ℚ P →
          natℚ 0 ≤ℚ G →
          natℚ 0 ≤ℚ O →
          natℚ 0 ≤ℚ S *ℚ F +ℚ h *ℚ P +ℚ (G +ℚ O -ℚ (S *ℚ G +ℚ h *ℚ O))
      go =
          ∀₆ ℚR _ λ ρ. simp qq λ s l e f p g o.
          part 1 (num 2 ⊠ to s ⊠ to f ⊞ to p ⊞ num 2 ⊠ to l ⊠ to g ⊞ to o ⊞ times (v 3 ⊖ v 5) e) tt

  pub loads_leeward : (e : End) (ts : List Tier) → NoWindwardLoad rule e ts
  loads_leeward e ts i =
      to-⊑ (nat 0) (load_at (chain_tiers rule e ts) i)
      (rw (mk_int (pos 0), load_between rule e ts i) (between_least (get_or ts i blank_tier) (get_or ts (suc i) blank_tier)))

  -- a heavier tier: more F, the same P
  force_grows : {t u : Tier} → HeavierTier t u → F t ≤ℚ F u
  force_grows {t} {u} h =
      rw (transverse_mk rule.factor t, transverse_mk rule.factor u)
      (go (base t) (base u) (mk rule.factor) (natℚ (981 * (t.mass * t.aT))) (natℚ (981 * (u.mass * u.aT)))
      (half_weight_times t t.aT) (half_weight_times u u.aT)
      (nat_q (981 * (t.mass * t.aT)) (981 * (u.mass * u.aT)) more) factor_least)
    where
      same : t.aT ≡ u.aT
      same = sym (ap (λ (x : Tier). x.aT) h.same)

      more : 981 * (t.mass * t.aT) ≤ 981 * (u.mass * u.aT)
      more = omega (arith, mul-le-mul h.mass (le_of_eq same))

      go : (x y f a b : ℚ) → natℚ 200000 *ℚ x ≡ a → natℚ 200000 *ℚ y ≡ b → a ≤ℚ b → natℚ 0 ≤ℚ f → x *ℚ f ≤ℚ y *ℚ f
      go = ∀₅ ℚR _ λ ρ. simp qq λ d e h l. part 199999 (to h ⊠ to l ⊞ times (⊖ v 2) d ⊞ times (v 2) e) tt

  wind_same : {t u : Tier} → HeavierTier t u → mk (wind u) ≡ mk (wind t)
  unfolding wind box_length
  wind_same {t} {u} h = ap (λ (x : Tier). mk (wind x)) h.same

  between_grows : {t u t' u' : Tier} → HeavierTier t t' → HeavierTier u u' → between rule t u ≤ℚ between rule t' u'
  unfolding between
  between_grows {t} {u} {t'} {u'} h l =
      rw (wind_same h, wind_same l)
      (go S (mk half) (F t) (mk (wind t)) (F u) (mk (wind u)) (F t') (F u') share_least share_most (force_grows h) (force_grows l))
    where
      go : (S h F P G O A B : ℚ) →
          natℚ 0 ≤ℚ S →
          S ≤ℚ natℚ 1 →
          F ≤ℚ A →
          G ≤ℚ B →
          S *ℚ F +ℚ h *ℚ P +ℚ (G +ℚ O -ℚ (S *ℚ G +ℚ h *ℚ O)) ≤ℚ S *ℚ A +ℚ h *ℚ P +ℚ (B +ℚ O -ℚ (S *ℚ B +ℚ h *ℚ O))
      go = ∀₈ ℚR _ λ ρ. simp qq λ s l f g. by_cert (to s ⊠ to f ⊞ to l ⊠ to g) tt

  pub loads_grow : (e : End) (ts us : List Tier) → HeavierTiers ts us → LoadsGrow rule e ts us
  loads_grow e ts us h i =
      to-⊑ (load_at (chain_tiers rule e ts) i) (load_at (chain_tiers rule e us) i)
      (rw (load_between rule e ts i, load_between rule e us i) (between_grows (h i) (h (suc i))))

-- a rule that whole numbers stand for is proper
pub stands_proper : {c : LoadRule} {rule : Rule} → StandsFor c rule → Proper rule
stands_proper {c} {rule} s =
    let share = times_q 20 c.share rule.share s.share in
    let factor = times_q 1000 c.factor rule.factor s.factor in
    record {
      share_least =
          to-⊑ (nat 0) rule.share (rw (mk_int (pos 0)) (least_20 (mk rule.share) (natℚ c.share) share (nn_int c.share)));
      share_most =
          to-⊑ rule.share (nat 1)
          (rw (mk_int (pos 1)) (most (mk rule.share) (natℚ c.share) share (nat_q c.share 20 s.share_most)));
      factor_least =
          to-⊑ (nat 0) rule.factor (rw (mk_int (pos 0)) (least_1000 (mk rule.factor) (natℚ c.factor) factor (nn_int c.factor)));
    }
  where
    least_20 : (x y : ℚ) → natℚ 20 *ℚ x ≡ y → natℚ 0 ≤ℚ y → natℚ 0 ≤ℚ x
    least_20 = ∀₂ ℚR _ λ ρ. simp qq λ e h. part 19 (to h ⊞ times (kp 1) e) tt

    least_1000 : (x y : ℚ) → natℚ 1000 *ℚ x ≡ y → natℚ 0 ≤ℚ y → natℚ 0 ≤ℚ x
    least_1000 = ∀₂ ℚR _ λ ρ. simp qq λ e h. part 999 (to h ⊞ times (kp 1) e) tt

    most : (x y : ℚ) → natℚ 20 *ℚ x ≡ y → y ≤ℚ natℚ 20 → x ≤ℚ natℚ 1
    most = ∀₂ ℚR _ λ ρ. simp qq λ e h. part 19 (to h ⊞ times (kn 0) e) tt
