-- Document 02, P6: which boxes of a bay are exposed to the wind (CR 1.3.1(40)), and a row's sheet with the wind codes that say so. All rows
-- start at the same height. Rows and tiers are counted from 0 here; heights are in mm.
use Rattle.std.specs.Prelude.{Option, None, Some, ℕ, suc, ◌*◌, ◌-◌, Bool, true, cond, ◌&&◌, ◌||◌, List, [], ◌∷◌, map, reverse, leb, take, drop}
use Rattle.arith.specs.Lists.{below, padded}
use Rattle.sheet.specs.declared.Tier.{Tier}
use Rattle.sheet.specs.declared.Sheet.{Sheet}
use Rattle.sheet.specs.Layout.{◌is◌, ◌above◌, wind_code, turned, blank_tier}
use Rattle.sheet.specs.Fits.{tier_at}
use Rattle.bay_wind.specs.declared.Outline.{Outline}
use Rattle.bay_wind.specs.declared.Nearest.{Nearest}
use Rattle.bay_wind.specs.declared.Neighbours.{Neighbours}
use Rattle.bay_wind.specs.Sums.{sum_of}

-- the height of the first k tiers together: where the foot of tier k stands, and the top of the tier before it
abbrev pub height_of : List Tier → ℕ → ℕ
height_of tiers k = sum_of (λ j. (tier_at tiers j).height) k

-- a row as the rows beside it see it: the height of its boxes together and their size, which is 0 in an empty row
abbrev pub empty_row : Outline
empty_row = record { height = 0; size = 0 }

abbrev pub stack_of : Sheet → Outline
stack_of t = record { height = height_of t.tiers t.ntiers; size = (tier_at t.tiers 0).size }

-- the nearest loaded row among those of one side, given nearest first, and how many empty rows lie between
unfoldable pub nearest_behind : ℕ → List Outline → Option Nearest
nearest_behind between [] = None
nearest_behind between (row ∷ rows) = cond (row.size is 0) (nearest_behind (suc between) rows) (Some (record { between = between; row = row }))

abbrev pub nearest_of : List Outline → Option Nearest
nearest_of rows = nearest_behind 0 rows

-- of row k on either side, where the rows are given from port to starboard
unfoldable pub neighbours_of : List Outline → ℕ → Neighbours
neighbours_of rows k = record { port = nearest_of (reverse (take k rows)); starboard = nearest_of (drop (suc k) rows) }

-- a box whose top stands at `top` is exposed beside a loaded row: three or more empty rows between expose it fully; a row of 20-ft boxes
-- exposes a 40-ft box fully; else more than one third of its height shows above the row
unfoldable pub exposed_above : Tier → ℕ → ℕ → Outline → Bool
exposed_above t top between row =
    leb 3 between || t.size is 40 && row.size is 20 || 3 * (top - row.height) above t.height

-- no loaded row beyond exposes it fully
abbrev pub exposed_beside : Tier → ℕ → Option Nearest → Bool
exposed_beside t top None = true
exposed_beside t top (Some near) = exposed_above t top near.between near.row

-- on either side
abbrev pub exposed_in_bay : Neighbours → Tier → ℕ → Bool
exposed_in_bay near t top = exposed_beside t top near.port || exposed_beside t top near.starboard

-- the wind part of a tier's byte worked out afresh: a turned box stays turned
unfoldable pub with_wind : Bool → Tier → Tier
with_wind e t =
    record {
      size = t.size;
      wind = wind_code e (turned t);
      height = t.height;
      mass = t.mass;
      aT = t.aT;
      aVmax = t.aVmax;
      aVmin = t.aVmin;
    }

abbrev pub tier_in_bay : Neighbours → List Tier → ℕ → Tier
tier_in_bay near tiers k =
    let t = tier_at tiers k in
    with_wind (exposed_in_bay near t (height_of tiers (suc k))) t

-- a row's sheet with those wind codes
abbrev pub sheet_in_bay : Neighbours → Sheet → Sheet
sheet_in_bay near t =
    record {
      head = t.head;
      tiers = padded 10 blank_tier (map (tier_in_bay near t.tiers) (below t.ntiers));
      ntiers = t.ntiers;
      door = t.door;
      ndoor = t.ndoor;
      closed = t.closed;
      nclosed = t.nclosed;
    }
