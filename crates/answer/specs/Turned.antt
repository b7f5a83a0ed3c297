-- Document 02, P1: turned boxes, computed over the definitions, beside document 01's table. The figures of the mixture are those of the
-- second program.
use Rattle.std.specs.Prelude.{true, false, List, [], ◌∷◌}
use Rattle.arith.specs.Fractions.{Frac, nat, ◌/q◌, ◌≈◌}
use Rattle.springs.specs.Equations as S
use Rattle.sheet.specs.declared.Tier.{Tier}
use Rattle.sheet.specs.declared.Sheet.{Sheet}
use Rattle.sheet.specs.Layout.{wind_code}
use Rattle.sheet.specs.Ends.{door, closed}
use Rattle.statics.specs.Loads.{wind, rule_of}
use Rattle.statics.specs.Ends.{EndSolved, OneSolution}
use Rattle.answer.specs.Table.{box_of, rod_s, sheet_with, lowest_load}

-- box B turned, and one turned and exposed, of 40 ft and 2896 mm
abbrev pub box_turned : Tier
box_turned = record { size = 40; wind = wind_code false true; height = 2591; mass = 20000; aT = 500; aVmax = 1500; aVmin = 800 }

abbrev pub exposed_turned : Tier
exposed_turned = record { size = 40; wind = wind_code true true; height = 2896; mass = 20000; aT = 500; aVmax = 1500; aVmin = 800 }

-- B turned with S at level 1; B turned below, the same with 2,000 kg above and not turned, S at level 2; both with S at the door end
abbrev pub lashed_turned : Sheet
lashed_turned = sheet_with 0 (box_turned ∷ []) (rod_s 1 ∷ [])

abbrev pub mixed : Sheet
mixed = sheet_with 0 (box_turned ∷ box_of 2000 ∷ []) (rod_s 2 ∷ [])

pub record Turned : Type 0 where
  -- loads and wind as before: (a), (i)
  pub load_same : lowest_load lashed_turned ≈ nat 220725 /q nat 10
  pub wind_same : wind exposed_turned ≈ nat 1906633728 /q nat 100000
  -- D = 22,072.5 / 22,890 mm at the door end, with S and the closed end's spring; 22,072.5 / 3,730 at the closed end, which is bare
  pub lashed_one : OneSolution (rule_of lashed_turned) door lashed_turned
  pub lashed_door :
      (Ds : List Frac) →
      EndSolved (rule_of lashed_turned) door lashed_turned Ds →
      S.shift Ds 1 ≈ nat 220725 /q nat 10 /q nat 22890
  pub lashed_closed :
      (Ds : List Frac) → EndSolved (rule_of lashed_turned) closed lashed_turned Ds → S.shift Ds 1 ≈ nat 220725 /q nat 10 /q nat 3730
  -- D of levels 1 and 2 of the mixture, at the door end
  pub mixed_one : OneSolution (rule_of mixed) door mixed
  pub mixed_lower : (Ds : List Frac) → EndSolved (rule_of mixed) door mixed Ds → S.shift Ds 1 ≈ nat 3719625 /q nat 2644636
  pub mixed_upper : (Ds : List Frac) → EndSolved (rule_of mixed) door mixed Ds → S.shift Ds 2 ≈ nat 18034377 /q nat 26446360
