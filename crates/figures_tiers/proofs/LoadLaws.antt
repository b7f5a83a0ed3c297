-- Loads on the levels, weights above them and heights: ranges, and the loops over the tiers from the top down.
use Prim.Native.Nat.{ℕ, suc, ◌+◌, ◌*◌, ◌-◌, ◌/◌, ◌^◌, ◌<◌, ◌≤◌}
use mathlib.Core.Path.{◌≡◌, refl, sym, ap, subst, ◌∙◌}
use mathlib.Core.List.{List, ◌∷◌, map}
use native.Mathlib.Decide.{dec_lt}
use native.Mathlib.Omega.{arith}
use lib.ListN.{length, length-set, get_or, set, take, drop, replicate, get_or-eq_default, drop_of_length-le}
use lib.Seq.{drop-cons, drop-set-lt, get_or-set_same, take-set-lt}
use Rattle.sheet.specs.Layout.{blank_tier}
use Rattle.sheet.specs.declared.Tier.{Tier}
use Rattle.statics.specs.Inner.WholeNumbers.{transverse_units, wind_units, level_load, vertical_units, half_weight}
use Rattle.statics.specs.declared.LoadRule.{LoadRule}
use Rattle.statics.specs.Inner.Computed.{loads_of}
use Rattle.statics.proofs.Arrays.{filled_padded, Between, between_none, fill_below, peel, peeled_off}

abbrev Load : LoadRule → List Tier → ℕ → ℕ → Type 0
Load rule ts j x = (x ≡ level_load rule.share rule.factor (get_or ts j blank_tier) (get_or ts (suc j) blank_tier)) × (x ≤ 2 ^ 46)

-- what pushes on level i from above, and the loads on the levels over it
pub record LoadedDown (rule : LoadRule) (n : ℕ) (ts : List Tier) (loads : List ℕ) (p g i : ℕ) : Type 0 where
  pub within : i ≤ n
  pub loaded : Between 0 (Load rule ts) 10 i n loads
  pub transverse_is : p ≡ transverse_units (get_or ts i blank_tier)
  pub wind_is : g ≡ wind_units (get_or ts i blank_tier)
  pub transverse_small : p ≤ 30480 * 1500
  pub wind_small : g ≤ 27 * 12192 * 2896

module _ {rule : LoadRule} {n : ℕ} {ts : List Tier} where
  pub loaded_none : length ts ≡ n → LoadedDown rule n ts (replicate 10 0) 0 0 n
  unfolding transverse_units wind_units
  loaded_none stacked =
      let e : get_or ts n blank_tier ≡ blank_tier = get_or-eq_default ts blank_tier (omega arith) in
      record {
        within = omega arith;
        loaded = between_none 0 _ 10 n;
        transverse_is = rw e refl;
        wind_is = rw e refl;
        transverse_small = omega arith;
        wind_small = omega arith;
      }

  pub loaded_more :
      {loads : List ℕ} {p g i p' g' x : ℕ} →
      n ≤ 10 →
      0 < i →
      LoadedDown rule n ts loads p g i →
      p' ≡ transverse_units (get_or ts (i - 1) blank_tier) →
      g' ≡ wind_units (get_or ts (i - 1) blank_tier) →
      p' ≤ 30480 * 1500 →
      g' ≤ 27 * 12192 * 2896 →
      x ≡ (981 * rule.factor * (rule.share * p' + (20 - rule.share) * p) + 40000 * (g' + g)) * 2 ^ 28 / 4000000000 →
      x ≤ 2 ^ 46 →
      LoadedDown rule n ts (set loads (i - 1) x) p' g' (i - 1)
  unfolding level_load
  loaded_more {loads} {i = i} {x = x} few up s ep eg hp hg ex hx =
      let e : i ≡ suc (i - 1) = omega arith in
      record {
        within = omega (arith, s.within);
        loaded =
            fill_below 0 (Load rule ts) 10 (i - 1) n loads x (omega (arith, s.within)) (omega (arith, s.within))
            (rw (← e, ← ep, ← eg, ← s.transverse_is, ← s.wind_is) ex, hx)
            (subst (λ (z : ℕ). Between 0 (Load rule ts) 10 z n loads) e s.loaded);
        transverse_is = ep;
        wind_is = eg;
        transverse_small = hp;
        wind_small = hg;
      }

  pub loaded_all :
      {loads : List ℕ} {p g i : ℕ} →
      length ts ≡ n →
      n ≤ 10 →
      i ≤ 0 →
      LoadedDown rule n ts loads p g i →
      loads ≡ loads_of rule ts
  unfolding loads_of
  loaded_all {loads} {i = i} stacked few low s =
      filled_padded (λ j. level_load rule.share rule.factor (get_or ts j blank_tier) (get_or ts (suc j) blank_tier)) 0 10 (length ts) loads
      (omega arith)
      (record {
        long = s.loaded.long;
        each = λ j h. (s.loaded.each j (omega arith) (omega arith)).0;
        rest = λ j h. s.loaded.rest j (omega arith);
      })

abbrev Weight : (Tier → ℕ) → List Tier → ℕ → ℕ → Type 0
Weight acceleration ts j x = (x ≡ half_weight acceleration ts j) × (x ≤ 2 ^ 40)

-- mass × acceleration of the tiers from number i on, and half of the weight above the levels from i on
pub record Carried (acceleration : Tier → ℕ) (n : ℕ) (ts : List Tier) (weights : List ℕ) (sum i : ℕ) : Type 0 where
  pub within : i ≤ n
  pub weighed : Between 0 (Weight acceleration ts) 11 i n weights
  pub sum_is : sum ≡ vertical_units acceleration (drop i ts)
  pub sum_small : sum ≤ (n - i) * (30480 * 3000)

units_peel :
    (acceleration : Tier → ℕ) (ts : List Tier) (i : ℕ) →
    i < length ts →
    vertical_units acceleration (drop i ts) ≡
    vertical_units acceleration (drop (suc i) ts) + (get_or ts i blank_tier).mass * acceleration (get_or ts i blank_tier)
unfolding vertical_units
units_peel acceleration ts i h = rw (drop-cons ts i blank_tier h) (omega arith)

units_off : (acceleration : Tier → ℕ) (ts : List Tier) (i : ℕ) → length ts ≤ i → vertical_units acceleration (drop i ts) ≡ 0
unfolding vertical_units
units_off acceleration ts i h = rw (drop_of_length-le ts {i = i} h) refl

module _ {acceleration : Tier → ℕ} {n : ℕ} {ts : List Tier} (stacked : length ts ≡ n) where
  pub carried_none : Carried acceleration n ts (replicate 11 0) 0 n
  carried_none =
      record {
        within = omega arith;
        weighed = between_none 0 _ 11 n;
        sum_is = sym (units_off acceleration ts n (omega arith));
        sum_small = omega arith;
      }

  pub carried_more :
      {weights : List ℕ} {sum i own x : ℕ} →
      n ≤ 10 →
      0 < i →
      Carried acceleration n ts weights sum i →
      own ≡ (get_or ts (i - 1) blank_tier).mass * acceleration (get_or ts (i - 1) blank_tier) →
      own ≤ 30480 * 3000 →
      x ≡ 981 * (sum + own) * 2 ^ 18 / 400000 →
      x ≤ 2 ^ 40 →
      Carried acceleration n ts (set weights (i - 1) x) (sum + own) (i - 1)
  unfolding half_weight
  carried_more {weights} {sum} {i} {own} {x} few up s eo ho ex hx =
      let e : i ≡ suc (i - 1) = omega arith in
      let above = ap (λ (z : ℕ). vertical_units acceleration (drop z ts)) e in
      let more : sum + own ≡ vertical_units acceleration (drop (i - 1) ts) =
      omega (arith, s.sum_is, units_peel acceleration ts (i - 1) (omega (arith, s.within))) in
      record {
        within = omega (arith, s.within);
        weighed =
            fill_below 0 (Weight acceleration ts) 11 (i - 1) n weights x (omega (arith, s.within)) (omega (arith, s.within))
            (rw (← more) ex, hx)
            (subst (λ (z : ℕ). Between 0 (Weight acceleration ts) 11 z n weights) e s.weighed);
        sum_is = more;
        sum_small = omega (arith, s.sum_small, s.within);
      }

  -- at every level
  pub carried_all :
      {weights : List ℕ} {sum i : ℕ} →
      i ≤ 0 →
      Carried acceleration n ts weights sum i →
      (j : ℕ) →
      Weight acceleration ts j (get_or weights j 0)
  unfolding half_weight
  carried_all h s j =
      elim (dec_lt j n) [
        | yes q ↦ s.weighed.each j (omega arith) q
        | no ne ↦ rw (s.weighed.rest j (omega arith), units_off acceleration ts j (omega arith)) (refl, omega arith)
      ]

abbrev Stored : ℕ → List Tier → List ℕ → ℕ → Type 0
Stored n ts heights i = drop i (take n heights) ≡ map (λ t. t.height) (drop i ts)

-- the heights of the tiers from number i on
pub record HeightsDown (n : ℕ) (ts : List Tier) (heights : List ℕ) (i : ℕ) : Type 0 where
  pub long : length heights ≡ 10
  pub stored : Stored n ts heights i

pub heights_all :
    {n : ℕ} {ts : List Tier} {heights : List ℕ} {i : ℕ} →
    i ≤ 0 → HeightsDown n ts heights i → take n heights ≡ map (λ t. t.height) ts
heights_all {n} {ts} {heights} {i} h s = subst (Stored n ts heights) {x = i} {y = 0} (omega arith) s.stored

module _ {n : ℕ} {ts : List Tier} {heights : List ℕ} (stacked : length ts ≡ n) (few : n ≤ 10) where
  pub heights_none : length heights ≡ 10 → HeightsDown n ts heights n
  heights_none long =
      record {
        long = long;
        stored = rw (peeled_off heights n (omega arith), drop_of_length-le ts {i = n} (omega arith)) refl;
      }

  pub heights_more :
      {i h : ℕ} →
      0 < i →
      i ≤ n →
      HeightsDown n ts heights i →
      h ≡ (get_or ts (i - 1) blank_tier).height →
      HeightsDown n ts (set heights (i - 1) h) (i - 1)
  heights_more {i} {h} up within s e =
      record { long = long; stored = rw (own, drop-cons ts (i - 1) blank_tier (omega arith), above, e) refl }
    where
      long : length (set heights (i - 1) h) ≡ 10
      long = length-set heights (i - 1) h ∙ s.long

      above : Stored n ts heights (suc (i - 1))
      above = subst (Stored n ts heights) {x = i} {y = suc (i - 1)} (omega arith) s.stored

      own : drop (i - 1) (take n (set heights (i - 1) h)) ≡ h ∷ drop (suc (i - 1)) (take n heights)
      own =
          rw (
            peel (set heights (i - 1) h) n (i - 1) 0 (omega arith) (omega (arith, long)),
            get_or-set_same heights (i - 1) h 0 (omega (arith, s.long)),
            take-set-lt n heights (i - 1) h (omega arith),
            drop-set-lt (suc (i - 1)) (take n heights) (i - 1) h (omega arith),
          ) refl
