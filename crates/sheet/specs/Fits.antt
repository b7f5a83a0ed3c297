-- When a decoded sheet is within document 01's codes and limits.
use Rattle.std.specs.Prelude.{ℕ, suc, ◌<◌, ◌≤◌, true, false, List, ◌≡◌, get_or, take}
use Rattle.sheet.specs.declared.Tier.{Tier}
use Rattle.sheet.specs.declared.Lash.{Lash}
use Rattle.sheet.specs.declared.Sheet.{Sheet}
use Rattle.sheet.specs.Layout.{rule_fits, tier_fits, breaking_fits, lash_fits, blank_tier, blank_lash}
use Rattle.arith.specs.Lists.{padded}
use Rattle.sheet.specs.Refusals.{off_tiers, later}

abbrev pub tier_at : List Tier → ℕ → Tier
tier_at tiers k = get_or tiers k blank_tier

abbrev pub lash_at : List Lash → ℕ → Lash
lash_at lashes k = get_or lashes k blank_lash

-- an end of a stack of n tiers: at most 8 lashes, each within its limits and on a tier, not on the bottom corner of tier 1,
-- and later than the lash before it
pub record EndFits (n : ℕ) (lashes : List Lash) (count : ℕ) : Type 0 where
  pub few : count ≤ 8
  pub fits : (k : ℕ) → k < count → lash_fits (lash_at lashes k) ≡ true
  pub placed : (k : ℕ) → k < count → off_tiers n (lash_at lashes k) ≡ false
  pub ordered : (k : ℕ) → suc k < count → later (lash_at lashes k) (lash_at lashes (suc k)) ≡ true

-- a sheet: rule 1 or 2, route 0 to 12, lock material 0 to 2, its breaking load; 1 to 10 tiers, each within its limits and of the size of
-- tier 1
pub record Fits (t : Sheet) : Type 0 where
  pub rule : rule_fits t.head.rule ≡ true
  pub zero : t.head.zero ≡ 0
  pub route : t.head.route ≤ 12
  pub lock : t.head.lockMaterial ≤ 2
  pub breaking : breaking_fits t.head.lockBreakingLoad ≡ true
  pub some : 1 ≤ t.ntiers
  pub few : t.ntiers ≤ 10
  pub tiers : (k : ℕ) → k < t.ntiers → tier_fits (tier_at t.tiers k) ≡ true
  pub sizes : (k : ℕ) → k < t.ntiers → (tier_at t.tiers k).size ≡ (tier_at t.tiers 0).size
  pub door : EndFits t.ntiers t.door t.ndoor
  pub closed : EndFits t.ntiers t.closed t.nclosed

-- the arrays are of ten tiers and eight lashes, blank behind their counts
pub record Padded (t : Sheet) : Type 0 where
  pub tiers : t.tiers ≡ padded 10 blank_tier (take t.ntiers t.tiers)
  pub door : t.door ≡ padded 8 blank_lash (take t.ndoor t.door)
  pub closed : t.closed ≡ padded 8 blank_lash (take t.nclosed t.closed)
