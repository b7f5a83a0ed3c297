-- Document 01, "Figures to hold it to": (a) to (j) by rule 1, as one statement over the definitions; (f) and (g) as 02's P3 has them.
use Rattle.std.specs.Prelude.{◌≡◌, List, [], ◌∷◌, ℕ, length}
use Rattle.arith.specs.Fractions.{Frac, nat, ◌/q◌, ◌≈◌, ◌⊏◌}
use Rattle.springs.specs.Equations as S
use Rattle.sheet.specs.declared.Tier.{Tier}
use Rattle.sheet.specs.declared.Lash.{Lash}
use Rattle.sheet.specs.declared.Sheet.{Sheet}
use Rattle.sheet.specs.Layout.{blank_tier, blank_lash}
use Rattle.arith.specs.Lists.{padded}
use Rattle.statics.specs.Loads.{transverse, wind, rule_of}
use Rattle.statics.specs.Lashes.{lash_length, athwart_part}
use Rattle.statics.specs.Ends.{end_tiers, EndSolved, OneSolution}
use Rattle.sheet.specs.Ends.{door, tiers_of, lashes_of}
use Rattle.statics.specs.Posts.{moment, tension}
use Rattle.answer.specs.Limits.{safe_load}

-- box B: 40 ft, 2591 mm, A_T 500, A_Vmax 1,500, A_Vmin 800, sheltered; of 20,000 kg where no other mass is named
abbrev pub box_of : ℕ → Tier
box_of mass = record { size = 40; wind = 0; height = 2591; mass = mass; aT = 500; aVmax = 1500; aVmin = 800 }

abbrev pub box_b : Tier
box_b = box_of 20000

-- rod S at the top of a tier: a cross lash, LY 1950, LZ 2600, area 500, modulus 130,000; LX 0 where no other is named.
-- Its material and breaking load do not enter these figures
abbrev pub rod_of : ℕ → ℕ → Lash
rod_of lx tier =
    record {
      tier = tier;
      hook = 0;
      kind = 0;
      material = 0;
      lx = lx;
      ly = 1950;
      lz = 2600;
      area = 500;
      modulus = 130000;
      breakingLoad = 490000;
    }

abbrev pub rod_s : ℕ → Lash
rod_s tier = rod_of 0 tier

-- an exposed box
abbrev pub exposed_box : ℕ → ℕ → Tier
exposed_box size height = record { size = size; wind = 1; height = height; mass = 20000; aT = 500; aVmax = 1500; aVmin = 800 }

-- a sheet by a rule number, of these tiers, with these lashes at the door end; by rule 1 where no other is named
abbrev pub sheet_by : ℕ → ℕ → List Tier → List Lash → Sheet
sheet_by number route tiers lashes =
    record {
      head = record { rule = number; route = route; lockMaterial = 0; zero = 0; lockBreakingLoad = 490000 };
      tiers = padded 10 blank_tier tiers;
      ntiers = length tiers;
      door = padded 8 blank_lash lashes;
      ndoor = length lashes;
      closed = padded 8 blank_lash [];
      nclosed = 0;
    }

abbrev pub sheet_with : ℕ → List Tier → List Lash → Sheet
sheet_with route tiers lashes = sheet_by 1 route tiers lashes

-- B alone; two B; B with S at level 1; B below, the same with 2,000 kg above, S at level 2
abbrev pub alone : Sheet
alone = sheet_with 0 (box_b ∷ []) []

abbrev pub pair : Sheet
pair = sheet_with 0 (box_b ∷ box_b ∷ []) []

abbrev pub lashed : Sheet
lashed = sheet_with 0 (box_b ∷ []) (rod_s 1 ∷ [])

abbrev pub lashed_above : Sheet
lashed_above = sheet_with 0 (box_b ∷ box_of 2000 ∷ []) (rod_s 2 ∷ [])

-- the tiers of a sheet's door end, each with its spring and its load Q
abbrev pub door_tiers : Sheet → List S.Tier
door_tiers t = end_tiers (rule_of t) door t

-- Q of tier 1
abbrev pub lowest_load : Sheet → Frac
lowest_load t = (S.tier_at (door_tiers t) 0).Q

pub record Table : Type 0 where
  pub stiffness_s : athwart_part (rod_s 1) (nat 1) ≈ nat 7200
  pub a : lowest_load alone ≈ nat 220725 /q nat 10
  pub b : lowest_load pair ≈ nat 711225 /q nat 10
  pub c_moment : (Ds : List Frac) → moment (rule_of alone) (tiers_of alone) (lashes_of door alone) Ds 0 ≈ nat 571898475 /q nat 10
  pub c_tension : (Ds : List Frac) → tension (rule_of alone) (tiers_of alone) (lashes_of door alone) Ds 0 ≈ nat 0
  pub d_one : OneSolution (rule_of lashed) door lashed
  pub d : (Ds : List Frac) → EndSolved (rule_of lashed) door lashed Ds → S.shift Ds 1 ≈ nat 220725 /q nat 10 /q nat 10930
  pub e_one : OneSolution (rule_of lashed_above) door lashed_above
  pub e_shift :
      (Ds : List Frac) →
      EndSolved (rule_of lashed_above) door lashed_above Ds →
      S.shift Ds 2 ≈ nat 2918475 /q nat 100 /q nat 18130
  pub e_racking : (Ds : List Frac) → EndSolved (rule_of lashed_above) door lashed_above Ds → S.racking (door_tiers lashed_above) Ds 1 ⊏ nat 0
  pub f : safe_load 1 490000 ≡ 293000
  pub g : safe_load 1 500000 ≡ 299000
  pub h : lash_length (rod_s 1) ≡ 3250
  pub h_wider : lash_length (rod_of 1 1) ≡ 3251
  pub i_forty : wind (exposed_box 40 2896) ≈ nat 1906633728 /q nat 100000
  pub i_twenty : wind (exposed_box 20 2591) ≈ nat 847599012 /q nat 100000
  pub j : transverse (rule_of (sheet_with 7 (box_b ∷ []) [])).factor box_b ≈ nat 358065 /q nat 10
