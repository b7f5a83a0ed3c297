-- Document 02, P14: why racking and corner tension are not included, computed over the definitions. With the boxes and the rod of document
-- 01's case (e): 20,000 kg over 2,000 and over 10,000 kg, S at level 2 of the closed end, and no lash at the door end. The figures are
-- those of the second program.
use Rattle.std.specs.Prelude.{List, [], ◌∷◌, ℕ}
use Rattle.arith.specs.Fractions.{Frac, nat, ◌/q◌, ◌≈◌, ◌⊏◌}
use Rattle.sheet.specs.declared.Sheet.{Sheet}
use Rattle.sheet.specs.Fits.{Fits}
use Rattle.sheet.specs.Ends.{End, door, closed}
use Rattle.statics.specs.Loads.{rule_of}
use Rattle.statics.specs.Ends.{EndSolved}
use Rattle.statics.specs.Forces.{Force, racking, tension, exact_force}
use Rattle.answer.specs.Table.{box_of, box_b, rod_s, sheet_with}
use Rattle.heavier.specs.Heavier.{HeavierSheet}

-- box B over one of this mass; sheet_with puts the rod at the door end, here the ends change places
abbrev pub over : ℕ → Sheet
over mass =
    let s = sheet_with 0 (box_of mass ∷ box_b ∷ []) (rod_s 2 ∷ []) in
    record {
      head = s.head;
      tiers = s.tiers;
      ntiers = s.ntiers;
      door = s.closed;
      ndoor = s.nclosed;
      closed = s.door;
      nclosed = s.ndoor;
    }

abbrev pub light : Sheet
light = over 2000

abbrev pub heavy : Sheet
heavy = over 10000

-- the exact force at an entry of an end is x
abbrev pub ForceIs : Force → Sheet → End → ℕ → Frac → Type 0
ForceIs force t e i x = (Ds : List Frac) → EndSolved (rule_of t) e t Ds → exact_force force (rule_of t) e t Ds i ≈ x

-- racking of tier 2 at the closed end, above the light and above the heavy box
abbrev pub racking_light : Frac
racking_light = nat 9079155 /q nat 2006

abbrev pub racking_heavy : Frac
racking_heavy = nat 4841235 /q nat 2006

-- corner tension at level 0 of the door end
abbrev pub tension_light : Frac
tension_light = nat 41106625 /q nat 1004

abbrev pub tension_heavy : Frac
tension_heavy = nat 35514925 /q nat 1004

pub record NotIncluded : Type 0 where
  pub light_fits : Fits light
  pub heavy_fits : Fits heavy
  pub heavier : HeavierSheet light heavy
  -- the heavier box shifts level 2 further, and the lash holds tier 2 back more: its racking is lower, and to leeward both times
  pub racking_light_lem : ForceIs racking light closed 1 racking_light
  pub racking_heavy_lem : ForceIs racking heavy closed 1 racking_heavy
  pub racking_lower : racking_heavy ⊏ racking_light
  pub racking_leeward : nat 0 ⊏ racking_heavy
  -- the heavier box holds the stack down
  pub tension_light_lem : ForceIs tension light door 0 tension_light
  pub tension_heavy_lem : ForceIs tension heavy door 0 tension_heavy
  pub tension_lower : tension_heavy ⊏ tension_light
