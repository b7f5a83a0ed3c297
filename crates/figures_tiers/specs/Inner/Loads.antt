-- Contracts of inner functions: the loads on the levels, the weights above them, and the heights.
use Rattle.std.specs.Prelude.{◌≡◌, List, map, ℕ, ◌^◌, ◌<◌, ◌≤◌, get_or, take}
use Rattle.sheet.specs.declared.Tier.{Tier}
use Rattle.statics.specs.declared.LoadRule.{LoadRule}
use Rattle.statics.specs.Inner.WholeNumbers.{half_weight}
use Rattle.statics.specs.Inner.Computed.{loads_of}
use Rattle.statics.specs.Inner.InArrays.{most_in, least_in}

-- the loads on the levels over n tiers
pub record Loaded (rule : LoadRule) (n : ℕ) (ts : List Tier) (r : List ℕ) : Type 0 where
  pub named : r ≡ loads_of rule ts
  pub small : (i : ℕ) → i < n → get_or r i 0 ≤ 2 ^ 46

-- of n tiers the heights, and half of the weight above each level
pub record TiersMeasured (n : ℕ) (ts : List Tier) (heights weights : List ℕ) : Type 0 where
  pub heights_are : take n heights ≡ map (λ t. t.height) ts
  pub vmax_is : (i : ℕ) → get_or (most_in weights) i 0 ≡ half_weight (λ t. t.aVmax) ts i
  pub vmin_is : (i : ℕ) → get_or (least_in weights) i 0 ≡ half_weight (λ t. t.aVmin) ts i
  pub most_light : (i : ℕ) → get_or (most_in weights) i 0 ≤ 2 ^ 40
  pub least_light : (i : ℕ) → get_or (least_in weights) i 0 ≤ 2 ^ 40
