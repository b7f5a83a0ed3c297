-- The exact loads of tiers within document 01's limits: none below zero; of ten tiers at most 2,440,000 N, 4,600,000 N of weight, with
-- arms of at most 28,960 mm.
use mathlib.Core.Path.{◌≡◌, refl, sym, ap, subst, ◌∙◌}
use mathlib.Core.List.{List, [], ◌∷◌}
use Prim.Native.Nat.{ℕ, zero, suc, ◌+◌, ◌*◌, ◌≤◌}
use native.Mathlib.Nat.{mul-le-mul}
use native.Mathlib.Omega.{arith}
use lib.ListN.{get_or, length, drop, length-drop}
use lib.Seq.{get_or-drop}
use lib.IntN.{pos}
use Rattle.sheet.specs.Layout.{blank_tier}
use Rattle.arith.specs.Fractions.{Frac, nat, ◌+q◌, sumq}
use Rattle.arith.proofs.Rings.{∀₁, ∀₂, ∀₃, ∀₇, ∀₉, by_cert, to, num, ◌⊞◌, ◌⊠◌}
use Rattle.arith.proofs.Rationals.{ℚR, ℚ, mk, int, ◌+ℚ◌, ◌*ℚ◌, ◌≤ℚ◌, nn_int, nn_plus}
use Rattle.arith.proofs.RationalTerms.{qq}
use Rattle.arith.proofs.RationalOrder.{nat_q}
use Rattle.arith.proofs.FractionsInRationals.{mk_int, mk_add}
use Rattle.springs.specs.Equations as S
use Rattle.springs.proofs.Chain.{natℚ}
use Rattle.sheet.specs.declared.Tier.{Tier}
use Rattle.statics.specs.declared.LoadRule.{LoadRule}
use Rattle.statics.specs.Loads.{half, transverse, vertical_force, wind, load, Rule, StandsFor}
use Rattle.statics.specs.Ends.{chain_tiers}
use Rattle.sheet.specs.Ends.{End}
use Rattle.statics.specs.Posts.{level_height, turning, weight_above}
use Rattle.statics.specs.Inner.WholeNumbers.{transverse_units, wind_units}
use Rattle.sheet.specs.Inner.Limits.{TierLimits}
use Rattle.statics.proofs.WholeNumbers.{nat_plus, times_q}
use Rattle.statics.proofs.LevelLoads.{above, above_none, above_mk, half_times, half_weight_times, wind_times, transverse_number}
use Rattle.statics.proofs.LevelLoads.{transverse_most, wind_most}
use Rattle.statics.proofs.Within.{UpTo, up_none, up_more, up_sum, up_quotient, up_share}

-- the limits of each tier of a list, and of none
abbrev pub EachTier : List Tier → Type 0
EachTier ts = (i : ℕ) → TierLimits (get_or ts i blank_tier)

pub each_drop : (ts : List Tier) → EachTier ts → (i : ℕ) → EachTier (drop i ts)
each_drop ts f i j = subst TierLimits (sym (get_or-drop i ts j blank_tier)) (f (i + j))

-- the height of a level: no more than 2,896 mm a tier, and growing with the level
pub height_most : (ts : List Tier) → EachTier ts → (i : ℕ) → level_height ts i ≤ 2896 * length ts
unfolding level_height
height_most [] f zero = omega arith
height_most [] f (suc i) = omega arith
height_most (t ∷ ts) f zero = omega arith
height_most (t ∷ ts) f (suc i) = omega (arith, (f 0).height, height_most ts (λ j. f (suc j)) i)

pub height_rises : (ts : List Tier) (i j : ℕ) → i ≤ j → level_height ts i ≤ level_height ts j
unfolding level_height
height_rises ts zero j h = omega arith
height_rises ts (suc i) zero h = absurd (off h)
  where
    off : suc i ≤ 0 → ⊥
    off x = omega arith
height_rises [] (suc i) (suc j) h = omega arith
height_rises (t ∷ ts) (suc i) (suc j) h = omega (arith, height_rises ts i j (omega arith))

-- F_V of a tier, and V
module _ (acceleration : Tier → ℕ) (limit : (t : Tier) → TierLimits t → acceleration t ≤ 3000) where
  vertical_force_up : (t : Tier) → TierLimits t → UpTo 460000 (vertical_force acceleration t)
  unfolding vertical_force
  vertical_force_up t f =
      up_quotient 200000 (981 * (t.mass * acceleration t)) 460000 (vertical_force acceleration t) (omega arith)
      (half_weight_times t (acceleration t)) (omega (arith, mul-le-mul f.mass (limit t f)))

  uprights_up : (ts : List Tier) → EachTier ts → UpTo (460000 * length ts) (sumq (vertical_force acceleration) ts)
  unfolding sumq
  uprights_up [] f = up_none
  uprights_up (t ∷ ts) f = up_more (omega arith) (up_sum (vertical_force_up t (f 0)) (uprights_up ts (λ j. f (suc j))))

  pub weight_up : (ts : List Tier) →
      EachTier ts →
      length ts ≤ 10 →
      (i : ℕ) →
      UpTo 4600000 (weight_above acceleration ts i)
  weight_up ts f few i = up_more (omega (arith, length-drop i ts)) (uprights_up (drop i ts) (each_drop ts f i))

half_up : UpTo 1 half
half_up = up_quotient 2 1 1 half (omega arith) half_times (omega arith)

wind_up : (t : Tier) → TierLimits t → UpTo 19100 (wind t)
wind_up t f = up_quotient 50000 (wind_units t) 19100 (wind t) (omega arith) (wind_times t) (omega (arith, wind_most f))

-- F, P, Q and what turns about a level: share in twentieths, factor in thousandths, at most 1
module _ (rule : Rule) (c : LoadRule) (stands : StandsFor c rule) where
  share_up : UpTo 1 rule.share
  share_up =
      up_quotient 20 c.share 1 rule.share (omega arith) (times_q 20 c.share rule.share stands.share)
      (omega (arith, stands.share_most))

  transverse_up : (t : Tier) → TierLimits t → UpTo 224900 (transverse rule.factor t)
  transverse_up t tf =
      up_quotient 200000000 (981 * c.factor * transverse_units t) 224900 (transverse rule.factor t) (omega arith)
      (transverse_number rule.factor c.factor stands.factor t)
      (omega (arith, mul-le-mul stands.factor_most (transverse_most tf)))

  -- F + P of a tier, and of a list of them
  passed_up : (t : Tier) → TierLimits t → UpTo 244000 (transverse rule.factor t +q wind t)
  passed_up t tf = up_sum (transverse_up t tf) (wind_up t tf)

  above_up : (ts : List Tier) → EachTier ts → UpTo (244000 * length ts) (above rule ts)
  unfolding sumq
  above_up [] tf = up_none
  above_up (t ∷ ts) tf = up_more (omega arith) (up_sum (passed_up t (tf 0)) (above_up ts (λ j. tf (suc j))))

  load_up : (t : Tier) (ts : List Tier) →
      TierLimits t →
      EachTier ts →
      UpTo (244000 * suc (length ts)) (load rule t ts)
  unfolding load
  load_up t ts tf uf =
      up_more (omega arith)
      (up_sum (up_sum (up_share share_up (transverse_up t tf)) (up_share half_up (wind_up t tf))) (above_up ts uf))

  -- Q of every tier
  pub tier_up : (e : End) (ts : List Tier) →
      EachTier ts →
      (i : ℕ) →
      UpTo (244000 * length ts) (S.tier_at (chain_tiers rule e ts) i).Q
  unfolding chain_tiers
  tier_up e [] tf i = up_none
  tier_up e (t ∷ ts) tf zero = load_up t ts (tf 0) (λ j. tf (suc j))
  tier_up e (t ∷ ts) tf (suc i) = up_more (omega arith) (tier_up e ts (λ j. tf (suc j)) i)

  -- what turns about a level: no arm is longer than the stack is high
  turning_none : (foot : Frac) → mk (turning rule foot []) ≡ natℚ 0
  unfolding turning int
  turning_none foot = refl

  turning_mk : (foot : Frac) (t : Tier) (ts : List Tier) →
      mk (turning rule foot (t ∷ ts))
      ≡ mk (transverse rule.factor t) *ℚ (mk foot +ℚ mk rule.share *ℚ natℚ t.height)
      +ℚ mk (wind t) *ℚ (mk foot +ℚ mk half *ℚ natℚ t.height)
      +ℚ mk (turning rule (foot +q nat t.height) ts)
  unfolding turning int ◌+ℚ◌ ◌*ℚ◌
  turning_mk foot t ts = refl

  foot_mk : (foot : Frac) (h : ℕ) → mk (foot +q nat h) ≡ mk foot +ℚ natℚ h
  foot_mk foot h = mk_add foot (nat h) ∙ ap (λ z. mk foot +ℚ z) (mk_int (pos h))

  foot_least : (foot : Frac) (h : ℕ) → natℚ 0 ≤ℚ mk foot → natℚ 0 ≤ℚ mk (foot +q nat h)
  foot_least foot h l = rw foot_mk (nn_plus (mk foot) (natℚ h) l (nn_int h))

  turning_least : (ts : List Tier) →
      EachTier ts →
      (foot : Frac) →
      natℚ 0 ≤ℚ mk foot →
      natℚ 0 ≤ℚ mk (turning rule foot ts)
  turning_least [] tf foot h = rw turning_none (nn_int 0)
  turning_least (t ∷ ts) tf foot h =
      let next = foot +q nat t.height in
      rw turning_mk
      (go (mk (transverse rule.factor t)) (mk (wind t)) (mk foot) (mk rule.share) (mk half) (natℚ t.height)
      (mk (turning rule next ts)) (transverse_up t (tf 0)).least (wind_up t (tf 0)).least h share_up.least half_up.least
      (nn_int t.height) (turning_least ts (λ j. tf (suc j)) next (foot_least foot t.height h)))
    where
      go : (F P a S k h T : ℚ) →
          natℚ 0 ≤ℚ F →
          natℚ 0 ≤ℚ P →
          natℚ 0 ≤ℚ a →
          natℚ 0 ≤ℚ S →
          natℚ 0 ≤ℚ k →
          natℚ 0 ≤ℚ h →
          natℚ 0 ≤ℚ T →
          natℚ 0 ≤ℚ F *ℚ (a +ℚ S *ℚ h) +ℚ P *ℚ (a +ℚ k *ℚ h) +ℚ T
      go =
          ∀₇ ℚR _ λ ρ. simp qq λ F P a S k h T.
          by_cert (to F ⊠ (to a ⊞ to S ⊠ to h) ⊞ to P ⊠ (to a ⊞ to k ⊠ to h) ⊞ to T) tt

  turning_most : (ts : List Tier) →
      EachTier ts →
      (foot : Frac) →
      natℚ 0 ≤ℚ mk foot →
      mk foot +ℚ natℚ (2896 * length ts) ≤ℚ natℚ 28960 →
      mk (turning rule foot ts) ≤ℚ natℚ 28960 *ℚ mk (above rule ts)
  turning_most [] tf foot h room = rw (turning_none foot, above_none rule) (nothing (natℚ 28960))
    where
      nothing : (x : ℚ) → natℚ 0 ≤ℚ x *ℚ natℚ 0
      nothing = ∀₁ ℚR _ λ ρ. simp qq (by_cert (num 0) tt)
  turning_most (t ∷ ts) tf foot h room =
      rw (turning_mk, above_mk rule t ts)
      (go (mk (transverse rule.factor t)) (mk (wind t)) (mk foot) (mk rule.share) (mk half) (natℚ t.height)
      (natℚ (2896 * length ts)) (mk (turning rule (foot +q nat t.height) ts)) (mk (above rule ts)) (transverse_up t (tf 0)).least
      (wind_up t (tf 0)).least share_up.most half_up.most (nn_int t.height) (nat_q t.height 2896 (tf 0).height)
      (nn_int (2896 * length ts)) here
      (turning_most ts (λ j. tf (suc j)) (foot +q nat t.height) (foot_least foot t.height h)
      (rw foot_mk (next (mk foot) (natℚ t.height) (natℚ (2896 * length ts)) (nat_q t.height 2896 (tf 0).height) here))))
    where
      here : mk foot +ℚ (natℚ 2896 +ℚ natℚ (2896 * length ts)) ≤ℚ natℚ 28960
      here = subst (λ z. mk foot +ℚ z ≤ℚ natℚ 28960) (ap natℚ (more (length ts)) ∙ nat_plus 2896 (2896 * length ts)) room
        where
          more : (n : ℕ) → 2896 * suc n ≡ 2896 + 2896 * n
          more n = omega arith

      next : (a h c : ℚ) → h ≤ℚ natℚ 2896 → a +ℚ (natℚ 2896 +ℚ c) ≤ℚ natℚ 28960 → a +ℚ h +ℚ c ≤ℚ natℚ 28960
      next = ∀₃ ℚR _ λ ρ. simp qq λ h l. by_cert (to h ⊞ to l) tt

      go : (F P a S k h c T Z : ℚ) →
          natℚ 0 ≤ℚ F →
          natℚ 0 ≤ℚ P →
          S ≤ℚ natℚ 1 →
          k ≤ℚ natℚ 1 →
          natℚ 0 ≤ℚ h →
          h ≤ℚ natℚ 2896 →
          natℚ 0 ≤ℚ c →
          a +ℚ (natℚ 2896 +ℚ c) ≤ℚ natℚ 28960 →
          T ≤ℚ natℚ 28960 *ℚ Z →
          F *ℚ (a +ℚ S *ℚ h) +ℚ P *ℚ (a +ℚ k *ℚ h) +ℚ T ≤ℚ natℚ 28960 *ℚ (F +ℚ P +ℚ Z)
      go =
          ∀₉ ℚR _ λ ρ. simp qq λ F P S k h l c a T.
          by_cert
          (to T ⊞ to F ⊠ (to a ⊞ to c ⊞ to l ⊞ to S ⊠ to h) ⊞ to P ⊠ (to a ⊞ to c ⊞ to l ⊞ to k ⊠ to h)) tt

  -- about a level of at most ten tiers
  pub turning_up : (ts : List Tier) →
      EachTier ts →
      length ts ≤ 10 →
      UpTo (28960 * 2440000) (turning rule (nat 0) ts)
  turning_up ts tf few =
      record {
        least = turning_least ts tf (nat 0) zero_least;
        most =
            go (mk (turning rule (nat 0) ts)) (mk (above rule ts)) (turning_most ts tf (nat 0) zero_least room)
            (up_more (omega arith) (above_up ts tf)).most;
      }
    where
      zero_least : natℚ 0 ≤ℚ mk (nat 0)
      zero_least = rw (mk_int (pos 0)) (nn_int 0)

      room : mk (nat 0) +ℚ natℚ (2896 * length ts) ≤ℚ natℚ 28960
      room = rw (mk_int (pos 0)) (plain (natℚ (2896 * length ts)) (nat_q (2896 * length ts) 28960 (omega arith)))
        where
          plain : (x : ℚ) → x ≤ℚ natℚ 28960 → natℚ 0 +ℚ x ≤ℚ natℚ 28960
          plain = ∀₁ ℚR _ λ ρ. simp qq λ h. by_cert (to h) tt

      go : (x z : ℚ) → x ≤ℚ natℚ 28960 *ℚ z → z ≤ℚ natℚ 2440000 → x ≤ℚ natℚ (28960 * 2440000)
      go = ∀₂ ℚR _ λ ρ. simp qq λ h l. by_cert (to h ⊞ num 28960 ⊠ to l) tt
