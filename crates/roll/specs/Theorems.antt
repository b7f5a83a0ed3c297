-- What is proved of accelerations from roll.
use Rattle.std.specs.Prelude.{Ok, Err, ◌≤◌, true, ◌≡◌}
use Rattle.arith.specs.Fractions.{Frac, nat, ◌≈◌, ◌*q◌}
use Rattle.sheet.specs.declared.Tier.{Tier}
use Rattle.sheet.specs.Layout.{tier_fits}
use Rattle.roll.specs.declared.Condition.{Condition}
use Rattle.roll.specs.declared.Accelerations.{Accelerations}
use Rattle.roll.specs.ConditionA.{tenths, aft, fore}
use Rattle.roll.specs.Rounded.{Rolled, condition_a}

-- k_3 is continuous: at 0.2 L and at 0.7 L the formulas on both sides give 0, so it does not matter which one is taken there
-- (proofs/Joints)
pub record Joints (L x-C : Frac) : Type 0 where
  pub at_02 : x-C ≈ tenths 2 *q L → aft L x-C ≈ nat 0
  pub at_07 : x-C ≈ tenths 7 *q L → fore L x-C ≈ nat 0

abbrev pub Continuous : Type 0
Continuous = (L x-C : Frac) → Joints L x-C

-- accelerations that are given are within document 01's limits, A_Vmin not above A_Vmax; a refusal is 18 or 19, with 3 at most
-- (proofs/Limits)
abbrev pub Within : Rolled → Type 0
Within (Ok a) = (a.aT ≤ 1500) × (a.aVmax ≤ 3000) × (a.aVmin ≤ 1000) × (a.aVmin ≤ a.aVmax)
Within (Err why) = (18 ≤ why.number) × (why.number ≤ 19) × (why.second ≤ 3)

abbrev pub AllWithin : Type 0
AllWithin = (g : Condition) → Within (condition_a g)

-- a tier with accelerations put in
abbrev pub with_accelerations : Tier → Accelerations → Tier
with_accelerations t a =
    record { size = t.size; wind = t.wind; height = t.height; mass = t.mass; aT = a.aT; aVmax = a.aVmax; aVmin = a.aVmin }

-- so a worked-out tier is not refused by 7 for them: if it fits with accelerations of 0, it fits with those that are given
-- (proofs/Limits)
abbrev pub TiersFit : Type 0
TiersFit =
    (g : Condition) (a : Accelerations) (t : Tier) →
    condition_a g ≡ Ok a →
    tier_fits (with_accelerations t (record { aT = 0; aVmax = 0; aVmin = 0 })) ≡ true →
    tier_fits (with_accelerations t a) ≡ true
