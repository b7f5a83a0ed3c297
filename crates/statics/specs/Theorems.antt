-- What holds of the loads and of the equations of an end; proofs/Theorems shows it.
use Rattle.std.specs.Prelude.{true, false, ◌≡◌, List, [], ◌∷◌, ℕ, suc, ◌≤◌, ltb, get_or, drop}
use Rattle.arith.specs.Fractions.{Frac, nat, ◌+q◌, ◌*q◌, ◌/q◌, ◌≈◌, ◌⊑◌}
use Rattle.springs.specs.Equations.{shift, racking, Solves, load_at}
use Rattle.sheet.specs.declared.Tier.{Tier}
use Rattle.sheet.specs.declared.Lash.{Lash}
use Rattle.sheet.specs.declared.Sheet.{Sheet}
use Rattle.sheet.specs.Fits.{Fits}
use Rattle.sheet.specs.Layout.{exposed, turned, lash_fits, blank_tier}
use Rattle.sheet.specs.Refusals.{off_tiers}
use Rattle.statics.specs.declared.LoadRule.{LoadRule}
use Rattle.statics.specs.Loads.{transverse, wind, vertical_force, Rule, share_of, rule_of, StandsFor}
use Rattle.statics.specs.Ends.{spring_of, chain_tiers, chain_lashes, EndSolved, OneSolution}
use Rattle.statics.specs.Posts.{moment, in_tension}
use Rattle.sheet.specs.Ends.{End, door, closed}

-- any share from 0 to 1, and any factor not below zero
pub record Proper (rule : Rule) : Type 0 where
  pub share_least : nat 0 ⊑ rule.share
  pub share_most : rule.share ⊑ nat 1
  pub factor_least : nat 0 ⊑ rule.factor

-- no level shifts to windward
abbrev pub NoWindwardShift : Rule → End → Sheet → Type 0
NoWindwardShift rule e t = (Ds : List Frac) → EndSolved rule e t Ds → (i : ℕ) → nat 0 ⊑ shift Ds i

-- no level's load, Q of the tier under it less Q of the tier over it, is below zero
abbrev pub NoWindwardLoad : Rule → End → List Tier → Type 0
NoWindwardLoad rule e ts = (i : ℕ) → nat 0 ⊑ load_at (chain_tiers rule e ts) i

-- height × racking, summed over the tiers from number i + 1 on
unfoldable pub racking_moment : (ℕ → Frac) → List Tier → ℕ → Frac
racking_moment R [] i = nat 0
racking_moment R (t ∷ ts) i = nat t.height *q R i +q racking_moment R ts (suc i)

-- M of a level is that sum over the tiers above, at every solution and for any share: the shares of Q are the arms of M
abbrev pub MomentByRackings : Rule → End → List Tier → List Lash → List Frac → ℕ → Type 0
MomentByRackings rule e ts ls Ds i = moment rule ts ls Ds i ≈ racking_moment (racking (chain_tiers rule e ts) Ds) (drop i ts) i

-- the same tier but for its mass, which is no lower
pub record HeavierTier (t u : Tier) : Type 0 where
  pub same :
      u ≡ record { size = t.size; wind = t.wind; height = t.height; mass = u.mass; aT = t.aT; aVmax = t.aVmax; aVmin = t.aVmin }
  pub mass : t.mass ≤ u.mass

abbrev pub HeavierTiers : List Tier → List Tier → Type 0
HeavierTiers ts us = (i : ℕ) → HeavierTier (get_or ts i blank_tier) (get_or us i blank_tier)

-- under heavier boxes no level's load is less
abbrev pub LoadsGrow : Rule → End → List Tier → List Tier → Type 0
LoadsGrow rule e ts us = (i : ℕ) → load_at (chain_tiers rule e ts) i ⊑ load_at (chain_tiers rule e us) i

-- The rule numbers (document 02, P10; proofs/RuleNumbers)

abbrev pub SharesByNumber : Type 0
SharesByNumber = (share_of 1 ≈ nat 45 /q nat 100) × (share_of 2 ≈ nat 1 /q nat 2)

-- by the rule of a sheet: a share from 0 to 1, exactly one solution at each end, and no shift to windward
pub record ByNumber (t : Sheet) : Type 0 where
  pub proper : Proper (rule_of t)
  pub one : (e : End) → OneSolution (rule_of t) e t
  pub leeward : (e : End) → NoWindwardShift (rule_of t) e t

-- Turned boxes (proofs/Turned)

-- K of a box that is not turned: 3,730 N/mm at the door end, 15,690 at the closed end
abbrev pub OwnSprings : Type 0
OwnSprings = (t : Tier) → turned t ≡ false → (spring_of door t ≡ 3730) × (spring_of closed t ≡ 15690)

-- u is the box t, which may stand the other way
pub record SameBox (t u : Tier) : Type 0 where
  pub same :
      u ≡ record { size = t.size; wind = u.wind; height = t.height; mass = t.mass; aT = t.aT; aVmax = t.aVmax; aVmin = t.aVmin }
  pub as_exposed : exposed u ≡ exposed t

-- where one of the two is turned, each end shows the other's spring
pub record SpringsSwapped (t u : Tier) : Type 0 where
  pub at_door : spring_of door u ≡ spring_of closed t
  pub at_closed : spring_of closed u ≡ spring_of door t

abbrev pub TurnSwapsSprings : Type 0
TurnSwapsSprings = (t u : Tier) → turned t ≡ false → turned u ≡ true → SpringsSwapped t u

-- and all else with which a box enters the loads and the posts is the same
pub record SameForces (t u : Tier) : Type 0 where
  pub transverse_same : (factor : Frac) → transverse factor u ≡ transverse factor t
  pub wind_same : wind u ≡ wind t
  pub most_same : vertical_force (λ t. t.aVmax) u ≡ vertical_force (λ t. t.aVmax) t
  pub least_same : vertical_force (λ t. t.aVmin) u ≡ vertical_force (λ t. t.aVmin) t
  pub height_same : u.height ≡ t.height

abbrev pub TurnKeepsForces : Type 0
TurnKeepsForces = (t u : Tier) → SameBox t u → SameForces t u

-- Relief by a bottom hook (proofs/Relief)

-- a lash within its limits, on a tier and not on the bottom corner of tier 1, counts in the tension at a level exactly if its tier's
-- number is above the level's
abbrev pub TensionByTier : Type 0
TensionByTier = (n : ℕ) (l : Lash) → lash_fits l ≡ true → off_tiers n l ≡ false → (i : ℕ) → in_tension i l ≡ ltb i l.tier

pub record Theorems : Type 0 where
  -- for any rule: exactly one solution at each end of a sheet within the limits, and M by the rackings
  pub one_solution : (rule : Rule) (e : End) (t : Sheet) → Fits t → OneSolution rule e t
  pub moment_by_rackings :
      (rule : Rule) (e : End) (ts : List Tier) (ls : List Lash) (Ds : List Frac) →
      Solves (chain_tiers rule e ts) (chain_lashes ls) Ds →
      (i : ℕ) →
      MomentByRackings rule e ts ls Ds i
  -- for any share from 0 to 1 and any factor not below zero: no load and no shift to windward, and loads that grow with the masses
  pub no_windward_load : (rule : Rule) → Proper rule → (e : End) (ts : List Tier) → NoWindwardLoad rule e ts
  pub no_windward_shift : (rule : Rule) → Proper rule → (e : End) (t : Sheet) → Fits t → NoWindwardShift rule e t
  pub loads_grow : (rule : Rule) → Proper rule → (e : End) (ts us : List Tier) → HeavierTiers ts us → LoadsGrow rule e ts us
  -- a rule that whole numbers stand for is such a rule
  pub stands_proper : (c : LoadRule) (rule : Rule) → StandsFor c rule → Proper rule
  -- so by either rule number
  pub shares_by_number : SharesByNumber
  pub by_number : (t : Sheet) → Fits t → ByNumber t
  -- turned boxes
  pub own_springs : OwnSprings
  pub turn_swaps_springs : TurnSwapsSprings
  pub turn_keeps_forces : TurnKeepsForces
  -- relief by a bottom hook
  pub tension_by_tier : TensionByTier
