-- For contracts of inner functions: document 01's limits in numbers, of a tier, of a lash, of an end and of a whole sheet. A sheet that
-- `Fits` has them, which is proved; nothing here need be believed.
use Rattle.std.specs.Prelude.{ℕ, ◌+◌, ◌<◌, ◌≤◌, cond, List, [], ◌∷◌, ◌⊎◌, ◌≡◌, get_or, length}
use Rattle.sheet.specs.declared.Tier.{Tier}
use Rattle.sheet.specs.declared.Lash.{Lash}
use Rattle.sheet.specs.declared.Sheet.{Sheet}
use Rattle.sheet.specs.Layout.{◌is◌, blank_tier, blank_lash}
use Rattle.sheet.specs.Lashings.{level_of}
use Rattle.sheet.specs.Ends.{End, tiers_of, lashes_of}

-- how many of the lashes lie at level i
unfoldable pub at_level : ℕ → List Lash → ℕ
at_level i [] = 0
at_level i (l ∷ ls) = cond (i is level_of l) 1 0 + at_level i ls

pub record BreakingLimits (x : ℕ) : Type 0 where
  pub some : 1 ≤ x
  pub most : x ≤ 2000000

-- what the measures of a tier are at most; a blank tier has these limits too
pub record TierLimits (t : Tier) : Type 0 where
  pub height : t.height ≤ 2896
  pub mass : t.mass ≤ 30480
  pub aT : t.aT ≤ 1500
  pub aVmax : t.aVmax ≤ 3000
  pub aVmin : t.aVmin ≤ 1000

-- a box's size, in feet, and the heights that go with it, in mm
abbrev pub Box : ℕ → ℕ → Type 0
Box size height =
    ((size ≡ 20) × ((height ≡ 2438) ⊎ (height ≡ 2591))) ⊎ ((size ≡ 40) × ((height ≡ 2591) ⊎ (height ≡ 2896)))

-- what else a tier has that is not blank
pub record TierFilled (t : Tier) : Type 0 where
  pub limits : TierLimits t
  pub box : Box t.size t.height
  pub height : 2438 ≤ t.height
  pub wind : t.wind ≤ 3
  pub mass : 1 ≤ t.mass
  pub order : t.aVmin ≤ t.aVmax

-- a lash of a stack of n tiers, its hook at level 1 to n
pub record LashLimits (n : ℕ) (l : Lash) : Type 0 where
  pub hook : l.hook ≤ 1
  pub kind : l.kind ≤ 1
  pub material : l.material ≤ 3
  pub lx : l.lx ≤ 5000
  pub ly : 500 ≤ l.ly
  pub ly_most : l.ly ≤ 10000
  pub lz : 500 ≤ l.lz
  pub lz_most : l.lz ≤ 20000
  pub area : 50 ≤ l.area
  pub area_most : l.area ≤ 1000
  pub modulus : 10000 ≤ l.modulus
  pub modulus_most : l.modulus ≤ 200000
  pub breaking : BreakingLimits l.breakingLoad
  pub tier : 1 ≤ l.tier
  pub tier_most : l.tier ≤ n
  pub raised : 1 ≤ level_of l
  pub inside : level_of l ≤ n

-- the lashes of an end of a stack of n tiers
pub record EndLimits (n : ℕ) (ls : List Lash) : Type 0 where
  pub few : length ls ≤ 8
  pub each : (j : ℕ) → j < length ls → LashLimits n (get_or ls j blank_lash)
  pub each_level : (i : ℕ) → at_level i ls ≤ 4

pub record SheetLimits (t : Sheet) : Type 0 where
  pub some : 1 ≤ t.ntiers
  pub few : t.ntiers ≤ 10
  pub tiers : length (tiers_of t) ≡ t.ntiers
  pub each : (i : ℕ) → i < t.ntiers → TierLimits (get_or (tiers_of t) i blank_tier)
  pub route : t.head.route ≤ 12
  pub ends : (e : End) → EndLimits t.ntiers (lashes_of e t)
