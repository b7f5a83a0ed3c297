-- The load on a level, Q of the tier under it less Q of the tier over it, from the two tiers alone; in whole numbers it is rounded
-- down, below 2^18 N.
use mathlib.Core.Path.{◌≡◌, refl, sym, ap, ap₂, ◌∙◌}
use mathlib.Core.Bool.{Bool, true, false, cond}
use mathlib.Core.List.{List, [], ◌∷◌}
use Prim.Native.Nat.{ℕ, zero, suc, ◌+◌, ◌*◌, ◌-◌, ◌^◌, ◌≤◌}
use native.Mathlib.Nat.{mul-le-mul, mul-le-mul_left, div-le_of_le-mul}
use native.Mathlib.Omega.{arith}
use lib.Dec.{eqb}
use lib.ListN.{get_or}
use lib.IntN.{pos}
use Rattle.sheet.specs.Layout.{blank_tier, exposed}
use Rattle.arith.specs.Fractions.{Frac, nat, ◌+q◌, ◌*q◌, recip, ◌≈◌, sumq}
use Rattle.arith.proofs.Polynomials.{v, kp, kn, ◌⊖◌, ◌⊗◌, ⊖◌}
use Rattle.arith.proofs.Rings.{∀₂, ∀₄, ∀₅, ∀₁₂, by_ring, by_eqs, times, mul_eq, part, both, ◌⊹◌}
use Rattle.arith.proofs.Rationals.{ℚR, ℚ, mk, int, ◌+ℚ◌, ◌-ℚ◌, ◌*ℚ◌}
use Rattle.arith.proofs.RationalTerms.{qq}
use Rattle.arith.proofs.FractionsInRationals.{mk_int, mk_sub}
use Rattle.springs.specs.Equations.{given, load_at}
use Rattle.springs.specs.Inner.Promise.{Rounded}
use Rattle.springs.proofs.Chain.{natℚ}
use Rattle.springs.proofs.Inputs.{rounded_quotient, rounded_same}
use Rattle.sheet.specs.declared.Tier.{Tier}
use Rattle.statics.specs.declared.LoadRule.{LoadRule}
use Rattle.statics.specs.Loads.{half, thousandths, weight, transverse, box_length, wind, load, Rule, StandsFor}
use Rattle.statics.specs.Ends.{chain_tiers}
use Rattle.sheet.specs.Ends.{End}
use Rattle.statics.specs.Inner.WholeNumbers.{transverse_units, wind_units, level_load}
use Rattle.sheet.specs.Inner.Limits.{TierLimits}
use Rattle.statics.proofs.WholeNumbers.{nat_times, nat_plus, times_q, quotient_is}

-- F of a tier is the factor × 981 × mass × A_T / 200,000, and P 27 × length × height / 50,000
transverse_frac : (t : Tier) (a : ℕ) → nat 200000 *q (half *q weight t *q thousandths a) ≈ nat (981 * (t.mass * a))
unfolding weight recip
transverse_frac t a = record { cross = ap pos (omega arith) }

wind_frac : (t : Tier) → nat 50000 *q wind t ≈ nat (wind_units t)
unfolding wind wind_units recip
wind_frac t = go (exposed t)
  where
    go :
        (c : Bool) →
        nat 50000 *q given c (half *q nat 1080 *q thousandths (box_length t) *q thousandths t.height) ≈ nat
        (cond c (27 * box_length t * t.height) 0)
    go true = record { cross = ap pos (omega arith) }
    go false = record { cross = refl }

pub wind_times : (t : Tier) → natℚ 50000 *ℚ mk (wind t) ≡ natℚ (wind_units t)
wind_times t = times_q 50000 (wind_units t) (wind t) (wind_frac t)

-- half of a tier's weight × an acceleration
pub half_weight_times : (t : Tier) (a : ℕ) →
    natℚ 200000 *ℚ mk (half *q weight t *q thousandths a) ≡ natℚ (981 * (t.mass * a))
half_weight_times t a = times_q 200000 (981 * (t.mass * a)) (half *q weight t *q thousandths a) (transverse_frac t a)

pub transverse_mk : (factor : Frac) (t : Tier) →
    mk (transverse factor t) ≡ mk (half *q weight t *q thousandths t.aT) *ℚ mk factor
unfolding transverse ◌*ℚ◌
transverse_mk factor t = refl

transverse_times : (factor : Frac) (t : Tier) →
    natℚ 200000 *ℚ mk (transverse factor t) ≡ natℚ (981 * transverse_units t) *ℚ mk factor
unfolding transverse_units
transverse_times factor t =
    ap (λ z. natℚ 200000 *ℚ z) (transverse_mk factor t)
    ∙ law (natℚ 200000) (mk (half *q weight t *q thousandths t.aT)) (mk factor) (natℚ (981 * transverse_units t))
    (half_weight_times t t.aT)
  where
    law : (c b f p : ℚ) → c *ℚ b ≡ p → c *ℚ (b *ℚ f) ≡ p *ℚ f
    law = ∀₄ ℚR _ λ ρ. simp qq λ e. by_eqs (mul_eq (v 2) e) tt

-- no tier, no load
no_transverse : (factor : Frac) → mk (transverse factor blank_tier) ≡ natℚ 0
unfolding transverse_units
no_transverse factor = law (mk (transverse factor blank_tier)) (mk factor) (transverse_times factor blank_tier)
  where
    law : (x f : ℚ) → natℚ 200000 *ℚ x ≡ natℚ 0 *ℚ f → x ≡ natℚ 0
    law = ∀₂ ℚR _ λ ρ. simp qq λ e. both (part 199999 (times (kn 0) e) tt) (part 199999 (times (kp 1) e) tt)

no_wind : mk (wind blank_tier) ≡ natℚ 0
unfolding wind int
no_wind = refl

-- the load on a level between a tier and the tier over it
module _ (rule : Rule) where
  -- what the tier itself puts on its own top, and all that it puts on the tiers under it
  abbrev pub own : Tier → ℚ
  own t = mk rule.share *ℚ mk (transverse rule.factor t) +ℚ mk half *ℚ mk (wind t)

  abbrev pub passed : Tier → ℚ
  passed t = mk (transverse rule.factor t) +ℚ mk (wind t)

  abbrev pub above : List Tier → Frac
  above ts = sumq (λ u. transverse rule.factor u +q wind u) ts

  load_mk : (t : Tier) (ts : List Tier) → mk (load rule t ts) ≡ own t +ℚ mk (above ts)
  unfolding load ◌*ℚ◌ ◌+ℚ◌
  load_mk t ts = refl

  pub above_none : mk (above []) ≡ natℚ 0
  unfolding sumq int
  above_none = refl

  pub above_mk : (t : Tier) (ts : List Tier) → mk (above (t ∷ ts)) ≡ passed t +ℚ mk (above ts)
  unfolding sumq ◌+ℚ◌
  above_mk t ts = refl

  unfoldable pub between : Tier → Tier → ℚ
  between t u = own t +ℚ (passed u -ℚ own u)

  -- Q of a tier less Q of the next
  pub load_between : (e : End) (ts : List Tier) (i : ℕ) →
      mk (load_at (chain_tiers rule e ts) i) ≡ between (get_or ts i blank_tier) (get_or ts (suc i) blank_tier)
  unfolding chain_tiers between
  load_between e [] i =
      mk_sub (nat 0) (nat 0)
      ∙ ap₂ ◌-ℚ◌ (mk_int (pos 0)) (mk_int (pos 0))
      ∙ law (mk rule.share) (mk (transverse rule.factor blank_tier)) (mk half) (mk (wind blank_tier))
      (no_transverse rule.factor) no_wind
    where
      law :
          (S F h P : ℚ) →
          F ≡ natℚ 0 →
          P ≡ natℚ 0 →
          natℚ 0 -ℚ natℚ 0 ≡ S *ℚ F +ℚ h *ℚ P +ℚ (F +ℚ P -ℚ (S *ℚ F +ℚ h *ℚ P))
      law = ∀₄ ℚR _ λ ρ. simp qq λ e f. by_eqs (mul_eq (kn 0) e ⊹ mul_eq (kn 0) f) tt
  load_between e (t ∷ []) zero =
      mk_sub (load rule t []) (nat 0)
      ∙ ap₂ ◌-ℚ◌ (load_mk t [] ∙ ap (λ z. own t +ℚ z) above_none) (mk_int (pos 0))
      ∙ law (own t) (mk rule.share) (mk (transverse rule.factor blank_tier)) (mk half) (mk (wind blank_tier))
      (no_transverse rule.factor) no_wind
    where
      law : (o S F h P : ℚ) → F ≡ natℚ 0 → P ≡ natℚ 0 → o +ℚ natℚ 0 -ℚ natℚ 0 ≡ o +ℚ (F +ℚ P -ℚ (S *ℚ F +ℚ h *ℚ P))
      law = ∀₅ ℚR _ λ ρ. simp qq λ e f. by_eqs (mul_eq (v 1 ⊖ kp 1) e ⊹ mul_eq (v 3 ⊖ kp 1) f) tt
  load_between e (t ∷ (u ∷ ts)) zero =
      mk_sub (load rule t (u ∷ ts)) (load rule u ts)
      ∙ ap₂ ◌-ℚ◌ (load_mk t (u ∷ ts) ∙ ap (λ z. own t +ℚ z) (above_mk u ts)) (load_mk u ts)
      ∙ law (own t) (passed u) (own u) (mk (above ts))
    where
      law : (o p q z : ℚ) → o +ℚ (p +ℚ z) -ℚ (q +ℚ z) ≡ o +ℚ (p -ℚ q)
      law = ∀₄ ℚR _ λ ρ. simp qq (by_ring tt)
  load_between e (t ∷ ts) (suc i) = load_between e ts i

pub half_times : natℚ 2 *ℚ mk half ≡ natℚ 1
unfolding recip
half_times = times_q 2 1 half (record { cross = refl })

pub transverse_number : (factor : Frac) (f : ℕ) →
    nat 1000 *q factor ≈ nat f →
    (t : Tier) →
    natℚ 200000000 *ℚ mk (transverse factor t) ≡ natℚ (981 * f * transverse_units t)
transverse_number factor f factor-is t =
    simp nat_times
    (law (mk (transverse factor t)) (natℚ (transverse_units t)) (mk factor) (natℚ f) (simp nat_times at (transverse_times factor t))
    (times_q 1000 f factor factor-is))
  where
    law : (F p g f : ℚ) →
        natℚ 200000 *ℚ F ≡ natℚ 981 *ℚ p *ℚ g →
        natℚ 1000 *ℚ g ≡ f →
        natℚ 200000000 *ℚ F ≡ natℚ 981 *ℚ f *ℚ p
    law = ∀₄ ℚR _ λ ρ. simp qq λ a b. by_eqs (mul_eq (kp 1000) a ⊹ mul_eq (kp 981 ⊗ v 1) b) tt

-- the load on a level, in whole numbers: share in twentieths, factor in thousandths, all over 4,000,000,000
module _ (rule : Rule) (c : LoadRule) (stands : StandsFor c rule) where
  abbrev s : ℕ
  s = c.share

  abbrev f : ℕ
  f = c.factor

  between_times : (t u : Tier) →
      natℚ 4000000000 *ℚ between rule t u
      ≡ natℚ (s * (981 * f * transverse_units t) + (20 - s) * (981 * f * transverse_units u) + 40000 * (wind_units t + wind_units u))
  unfolding between
  between_times t u =
      law (mk rule.share) (mk (transverse rule.factor t)) (mk (wind t)) (mk (transverse rule.factor u)) (mk (wind u)) (mk half)
      (natℚ s) (natℚ (20 - s)) (natℚ (981 * f * transverse_units t)) (natℚ (981 * f * transverse_units u)) (natℚ (wind_units t))
      (natℚ (wind_units u)) (times_q 20 s rule.share stands.share) (transverse_number rule.factor f stands.factor t)
      (transverse_number rule.factor f stands.factor u) (wind_times t) (wind_times u) half_times rest
      ∙ sym (spread s (20 - s) (981 * f * transverse_units t) (981 * f * transverse_units u) (wind_units t) (wind_units u))
    where
      rest : natℚ s +ℚ natℚ (20 - s) ≡ natℚ 20
      rest = sym (nat_plus s (20 - s)) ∙ ap natℚ (all s stands.share_most)
        where
          all : (s : ℕ) → s ≤ 20 → s + (20 - s) ≡ 20
          all s h = omega arith

      spread : (s w A B W X : ℕ) →
          natℚ (s * A + w * B + 40000 * (W + X))
          ≡ natℚ s *ℚ natℚ A +ℚ natℚ w *ℚ natℚ B +ℚ natℚ 40000 *ℚ (natℚ W +ℚ natℚ X)
      spread s w A B W X = simp (nat_plus, nat_times)

      law : (S F P G O h s w A B W X : ℚ) →
          natℚ 20 *ℚ S ≡ s →
          natℚ 200000000 *ℚ F ≡ A →
          natℚ 200000000 *ℚ G ≡ B →
          natℚ 50000 *ℚ P ≡ W →
          natℚ 50000 *ℚ O ≡ X →
          natℚ 2 *ℚ h ≡ natℚ 1 →
          s +ℚ w ≡ natℚ 20 →
          natℚ 4000000000 *ℚ (S *ℚ F +ℚ h *ℚ P +ℚ (G +ℚ O -ℚ (S *ℚ G +ℚ h *ℚ O)))
          ≡ s *ℚ A +ℚ w *ℚ B +ℚ natℚ 40000 *ℚ (W +ℚ X)
      law =
          ∀₁₂ ℚR _ λ ρ. simp qq λ a b c d e g r.
          by_eqs
          (mul_eq (kp 200000000 ⊗ (v 1 ⊖ v 3)) a
          ⊹ mul_eq (v 6) b
          ⊹ mul_eq (kp 20 ⊖ v 6) c
          ⊹ mul_eq (kp 40000) d
          ⊹ mul_eq (kp 40000) e
          ⊹ mul_eq (kp 2000000000 ⊗ (v 2 ⊖ v 4)) g
          ⊹ mul_eq (⊖ v 9) r) tt

  -- rounded down
  pub load_rounded : (e : End) (ts : List Tier) (i : ℕ) →
      Rounded (2 ^ 28) 1 (level_load s f (get_or ts i blank_tier) (get_or ts (suc i) blank_tier)) (load_at (chain_tiers rule e ts) i)
  unfolding level_load
  load_rounded e ts i =
      let t = get_or ts i blank_tier in
      let u = get_or ts (suc i) blank_tier in
      let Q = load_at (chain_tiers rule e ts) i in
      let exact = ap (λ z. natℚ 4000000000 *ℚ z) (load_between rule e ts i) ∙ between_times t u in
      rounded_same (2 ^ 28) 1 (level_load s f t u) _ Q (quotient_is 4000000000 _ Q (omega arith) (exact ∙ ap natℚ (omega arith)))
      (rounded_quotient _ (2 ^ 28) 4000000000 (omega arith))

-- pushes and gusts of a tier within its limits
pub transverse_most : {t : Tier} → TierLimits t → transverse_units t ≤ 45720000
unfolding transverse_units
transverse_most tf = mul-le-mul tf.mass tf.aT

pub wind_most : {t : Tier} → TierLimits t → wind_units t ≤ 953316864
unfolding wind_units box_length
wind_most {t} tf = wind_within (exposed t) (eqb t.size 20) t.height tf.height
  where
    wind_within : (c d : Bool) (h : ℕ) → h ≤ 2896 → cond c (27 * cond d 6058 12192 * h) 0 ≤ 953316864
    wind_within false d h l = omega arith
    wind_within true false h l = omega arith
    wind_within true true h l = omega arith

pub load_most : (s f : ℕ) (t u : Tier) → s ≤ 20 → f ≤ 1000 → TierLimits t → TierLimits u → level_load s f t u ≤ 2 ^ 46
unfolding level_load
load_most s f t u s20 f1 tf uf =
    let shares : s * transverse_units t + (20 - s) * transverse_units u ≤ 914400000 =
    omega (arith, mul-le-mul_left s (transverse_most tf), mul-le-mul_left (20 - s) (transverse_most uf)) in
    div-le_of_le-mul 4000000000 (omega (arith, mul-le-mul f1 shares, wind_most tf, wind_most uf))
