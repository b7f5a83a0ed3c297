-- Document 02, P10: figures by rule 2, the fleet standard, computed over the definitions, beside document 01's table by rule 1.
use Rattle.std.specs.Prelude.{List, [], ◌∷◌, ℕ}
use Rattle.arith.specs.Fractions.{Frac, nat, ◌/q◌, ◌≈◌}
use Rattle.springs.specs.Equations as S
use Rattle.sheet.specs.declared.Sheet.{Sheet}
use Rattle.sheet.specs.Ends.{door, tiers_of, lashes_of}
use Rattle.statics.specs.Loads.{rule_of}
use Rattle.statics.specs.Ends.{EndSolved, OneSolution}
use Rattle.statics.specs.Posts.{moment}
use Rattle.answer.specs.Table.{box_b, rod_s, exposed_box, sheet_by, lowest_load}

-- B alone; two B; B with S at level 1
abbrev pub fleet_alone : Sheet
fleet_alone = sheet_by 2 0 (box_b ∷ []) []

abbrev pub fleet_pair : Sheet
fleet_pair = sheet_by 2 0 (box_b ∷ box_b ∷ []) []

abbrev pub fleet_lashed : Sheet
fleet_lashed = sheet_by 2 0 (box_b ∷ []) (rod_s 1 ∷ [])

-- a 40 ft box alone, exposed, by either rule
abbrev pub exposed_by : ℕ → Sheet
exposed_by number = sheet_by number 0 (exposed_box 40 2896 ∷ []) []

pub record FleetStandard : Type 0 where
  -- Q of tier 1: 24,525 N of B alone, 73,575 N of two B
  pub load_alone : lowest_load fleet_alone ≈ nat 24525
  pub load_pair : lowest_load fleet_pair ≈ nat 73575
  -- M at level 0: 63,544,275 N·mm
  pub moment_alone : (Ds : List Frac) → moment (rule_of fleet_alone) (tiers_of fleet_alone) (lashes_of door fleet_alone) Ds 0 ≈ nat 63544275
  -- D = 24,525 / 10,930 mm
  pub lashed_one : OneSolution (rule_of fleet_lashed) door fleet_lashed
  pub lashed : (Ds : List Frac) → EndSolved (rule_of fleet_lashed) door fleet_lashed Ds → S.shift Ds 1 ≈ nat 24525 /q nat 10930
  -- half of P, 9,533.16864 N, by either rule: beside 22,072.5 N of F by rule 1, 24,525 by rule 2
  pub wind_by_one : lowest_load (exposed_by 1) ≈ nat 3160566864 /q nat 100000
  pub wind_by_two : lowest_load (exposed_by 2) ≈ nat 3405816864 /q nat 100000
