-- Document 02, P4: relief of the lock by a bottom hook, computed over the definitions. A stack of three boxes with a side lash at level 1
-- at both ends: on the bottom corner of tier 2, and on the top corner of tier 1. The figures are those of the second program.
use Rattle.std.specs.Prelude.{List, [], ◌∷◌, ◌≡◌, ℕ}
use Rattle.arith.specs.Fractions.{Frac, nat, ◌-q◌, ◌/q◌, ◌≈◌, ◌⊏◌}
use Rattle.sheet.specs.declared.Tier.{Tier}
use Rattle.sheet.specs.declared.Lash.{Lash}
use Rattle.sheet.specs.declared.Sheet.{Sheet}
use Rattle.sheet.specs.Fits.{Fits}
use Rattle.sheet.specs.Ends.{End, door, closed, tiers_of, lashes_of}
use Rattle.statics.specs.Loads.{rule_of}
use Rattle.statics.specs.Ends.{end_lashes, EndSolved}
use Rattle.statics.specs.Posts.{tension}
use Rattle.answer.specs.Limits.{corner_tension_limit}
use Rattle.answer.specs.Table.{sheet_with}

-- a box of 40 ft and 2896 mm, A_T 1,000, A_Vmax 1,500, A_Vmin 100, sheltered
abbrev pub high_box : ℕ → Tier
high_box mass = record { size = 40; wind = 0; height = 2896; mass = mass; aT = 1000; aVmax = 1500; aVmin = 100 }

-- a side lash of LY 1950, LZ 2600, area 1,000, modulus 200,000
abbrev pub side_rod : ℕ → ℕ → Lash
side_rod tier hook =
    record {
      tier = tier;
      hook = hook;
      kind = 1;
      material = 0;
      lx = 0;
      ly = 1950;
      lz = 2600;
      area = 1000;
      modulus = 200000;
      breakingLoad = 490000;
    }

-- 28,000 kg over two boxes of 2,000 kg, with this lash at both ends
abbrev pub lashed_by : Lash → Sheet
lashed_by l =
    let s = sheet_with 0 (high_box 2000 ∷ high_box 2000 ∷ high_box 28000 ∷ []) (l ∷ []) in
    record {
      head = s.head;
      tiers = s.tiers;
      ntiers = s.ntiers;
      door = s.door;
      ndoor = s.ndoor;
      closed = s.door;
      nclosed = s.ndoor;
    }

-- on the bottom corner of tier 2, and on the top corner of tier 1: both at level 1
abbrev pub by_bottom : Sheet
by_bottom = lashed_by (side_rod 2 1)

abbrev pub by_top : Sheet
by_top = lashed_by (side_rod 1 0)

-- the exact tension at level 1 of an end is x
abbrev pub TensionIs : Sheet → End → Frac → Type 0
TensionIs t e x =
    (Ds : List Frac) → EndSolved (rule_of t) e t Ds → tension (rule_of t) (tiers_of t) (lashes_of e t) Ds 1 ≈ x

-- M/2259 − V/2 at level 1, and the vertical part of the lash at each end
abbrev pub unrelieved : Frac
unrelieved = nat 589502520 /q nat 2259 -q nat 14715 /q nat 2

abbrev pub relief : End → Frac
relief door = nat 5820076800 /q nat 33649
relief closed = nat 1940025600 /q nat 16399

pub record Relief : Type 0 where
  -- both are within the limits, and their equations are the same
  pub bottom_fits : Fits by_bottom
  pub top_fits : Fits by_top
  pub same_equations : (e : End) → end_lashes e by_bottom ≡ end_lashes e by_top
  -- a top hook leaves the tension as it is without a lash, above the limit of a corner; a bottom hook takes its vertical part off
  pub top : (e : End) → TensionIs by_top e unrelieved
  pub above : nat corner_tension_limit ⊏ unrelieved
  pub bottom : (e : End) → TensionIs by_bottom e (unrelieved -q relief e)
  pub below : (e : End) → unrelieved -q relief e ⊏ nat corner_tension_limit
