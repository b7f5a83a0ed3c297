-- Document 01, "The springs": one end's equations, from stiffnesses and loads alone.
use Rattle.std.specs.Prelude.{Bool, true, false, List, ◌≡◌, ℕ, zero, suc, ◌<◌, leb, eqb, length, get_or}
use Rattle.arith.specs.Fractions.{Frac, nat, ◌-q◌, ◌*q◌, ◌≈◌, ◌⊏◌, sumq}

-- document 01's springs of a tier, in N/mm (class rule, Table 2-4): at the door end, and at the closed end
abbrev pub door_spring : ℕ
door_spring = 3730

abbrev pub closed_spring : ℕ
closed_spring = 15690

-- a tier: its spring K, in N/mm, and its load Q, in N. Tiers stand bottom first: entry i is tier i + 1, between levels i and i + 1
pub record Tier : Type 0 where
  pub K : Frac
  pub Q : Frac

-- a lash: the level of its hook, and its athwart part for each millimetre of that level's shift, in N/mm
pub record Lash : Type 0 where
  pub level : ℕ
  pub stiffness : Frac

abbrev pub no_tier : Tier
no_tier = record { K = nat 0; Q = nat 0 }

abbrev pub tier_at : List Tier → ℕ → Tier
tier_at ts i = get_or ts i no_tier

abbrev pub no_lash : Lash
no_lash = record { level = 0; stiffness = nat 0 }

abbrev pub lash_at : List Lash → ℕ → Lash
lash_at ls j = get_or ls j no_lash

-- D of a level, in mm to leeward: zero at the deck, level 0; entry i of the list is level i + 1
unfoldable pub shift : List Frac → ℕ → Frac
shift Ds zero = nat 0
shift Ds (suc i) = get_or Ds i (nat 0)

-- x where the test holds, else 0
abbrev pub given : Bool → Frac → Frac
given true x = x
given false x = nat 0

-- the athwart part of a lash
abbrev pub athwart : List Frac → Lash → Frac
athwart Ds l = l.stiffness *q shift Ds l.level

-- the athwart parts of all lashes at level i or above
abbrev pub athwart_from : List Lash → List Frac → ℕ → Frac
athwart_from ls Ds i = sumq (λ l. given (leb i l.level) (athwart Ds l)) ls

-- the stiffness of all lashes at level i together
abbrev pub stiffness_at : List Lash → ℕ → Frac
stiffness_at ls i = sumq (λ l. given (eqb i l.level) l.stiffness) ls

-- the load on level i + 1: Q of the tier under it less Q of the tier over it
abbrev pub load_at : List Tier → ℕ → Frac
load_at ts i = (tier_at ts i).Q -q (tier_at ts (suc i)).Q

-- R of the tier between levels i and i + 1: K × (D of the level over it − D of the level under it)
abbrev pub racking : List Tier → List Frac → ℕ → Frac
racking ts Ds i = (tier_at ts i).K *q (shift Ds (suc i) -q shift Ds i)

-- the equations: for each tier, R = Q − the athwart parts of all lashes at its upper level or above. The unknowns are D of levels 1 to n
pub record Solves (ts : List Tier) (ls : List Lash) (Ds : List Frac) : Type 0 where
  pub levels : length Ds ≡ length ts
  pub balance : (i : ℕ) → i < length ts → racking ts Ds i ≈ (tier_at ts i).Q -q athwart_from ls Ds (suc i)

-- every spring and every lash is stiffer than zero
pub record Stiff (ts : List Tier) (ls : List Lash) : Type 0 where
  pub springs : (i : ℕ) → i < length ts → nat 0 ⊏ (tier_at ts i).K
  pub lashes : (j : ℕ) → j < length ls → nat 0 ⊏ (lash_at ls j).stiffness
