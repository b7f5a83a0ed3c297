-- Document 01's figures (a) to (j), computed from the definitions.
use mathlib.Core.Path.{◌≡◌, refl, sym}
use mathlib.Core.List.{List, [], ◌∷◌}
use Prim.Native.Nat.{ℕ, zero, suc, ◌*◌, ◌≤◌, ◌<◌}
use native.Mathlib.Nat.{mul-le-mul}
use native.Mathlib.Omega.{arith}
use lib.Dec.{lit≤}
use Rattle.sheet.specs.Lashings.{level_of}
use Rattle.arith.specs.Fractions.{Frac, nat, ◌/q◌, recip, sumq, ◌≈◌, ◌⊏◌}
use Rattle.arith.specs.Lists.{from}
use Rattle.arith.specs.Inner.Roots.{Least}
use Rattle.sheet.specs.declared.Sheet.{Sheet}
use Rattle.statics.specs.Loads.{weight, transverse, vertical_force, box_length, wind, load, rule_of}
use Rattle.statics.specs.Lashes.{lash_length, pull, athwart_part}
use Rattle.springs.specs.Equations as S
use Rattle.springs.specs.Equations.{shift}
use Rattle.springs.proofs.OneSolution.{handed_stiffness, handed_load, shift_of, solution}
use Rattle.statics.specs.Ends.{chain_tiers, chain_lash, chain_lashes, end_lashes}
use Rattle.sheet.specs.Ends.{door, tiers_of, lashes_of}
use Rattle.statics.specs.Posts.{level_height, turning, moment, at_most, tension}
use Rattle.statics.proofs.LashLength.{length_is}
use Rattle.answer.specs.Limits.{safe_load}
use Rattle.answer.specs.Table.{box_b, rod_s, rod_of, exposed_box, sheet_by, sheet_with, alone, pair, lashed, lashed_above}
use Rattle.answer.specs.Table.{door_tiers, lowest_load, Table}
use Rattle.answer.proofs.Solutions.{one, every_shift, every_racking}

-- (a), (b)
figure_a : lowest_load alone ≈ nat 220725 /q nat 10
unfolding chain_tiers load transverse weight wind sumq recip
figure_a = record { cross = refl }

figure_b : lowest_load pair ≈ nat 711225 /q nat 10
unfolding chain_tiers load transverse weight wind sumq recip
figure_b = record { cross = refl }

-- (f), (g)
figure_f : safe_load 1 490000 ≡ 293000
unfolding safe_load
figure_f = refl

figure_g : safe_load 1 500000 ≡ 299000
unfolding safe_load
figure_g = refl

-- (h)
pub least_root : (s r : ℕ) → s ≤ suc r * suc r → r * r < s → Least s (suc r)
least_root s r enough below = record { enough = enough; least = λ k h. omega (arith, clash k h) }
  where
    clash : (k : ℕ) → s ≤ k * k → k ≤ r → ⊥
    clash k h l = omega (arith, mul-le-mul l l)

pub length_s : (tier : ℕ) → lash_length (rod_s tier) ≡ 3250
length_s tier = sym (length_is (rod_s tier) 3250 (least_root 10562500 3249 (lit≤ tt) (lit≤ tt)))

figure_h_wider : lash_length (rod_of 1 1) ≡ 3251
figure_h_wider = sym (length_is (rod_of 1 1) 3251 (least_root 10562501 3250 (lit≤ tt) (lit≤ tt)))

-- (i), (j)
figure_i_forty : wind (exposed_box 40 2896) ≈ nat 1906633728 /q nat 100000
unfolding wind box_length recip
figure_i_forty = record { cross = refl }

figure_i_twenty : wind (exposed_box 20 2591) ≈ nat 847599012 /q nat 100000
unfolding wind box_length recip
figure_i_twenty = record { cross = refl }

figure_j : transverse (rule_of (sheet_with 7 (box_b ∷ []) [])).factor box_b ≈ nat 358065 /q nat 10
unfolding transverse weight recip
figure_j = record { cross = refl }

-- (c): with no lash the shifts do not enter
figure_c_moment : (Ds : List Frac) → moment (rule_of alone) (tiers_of alone) (lashes_of door alone) Ds 0 ≈ nat 571898475 /q nat 10
unfolding moment turning transverse weight wind sumq recip level_height
figure_c_moment Ds = record { cross = refl }

figure_c_tension : (Ds : List Frac) → tension (rule_of alone) (tiers_of alone) (lashes_of door alone) Ds 0 ≈ nat 0
unfolding tension at_most moment turning transverse vertical_force weight wind sumq recip level_height
figure_c_tension Ds = record { cross = refl }

-- rod S
stiffness : (tier : ℕ) → athwart_part (rod_s tier) (nat 1) ≈ nat 7200
unfolding athwart_part pull recip
stiffness tier = rw (length_s tier) (record { cross = refl })

-- (d), (e)
abbrev pub door_lashes : Sheet → List S.Lash
door_lashes t = end_lashes door t

abbrev pub solved : Sheet → List Frac
solved t = solution (door_tiers t) (door_lashes t)

pub stiff_rod : (tier j : ℕ) → j < 1 → nat 0 ⊏ (S.lash_at (chain_lashes (rod_s tier ∷ [])) j).stiffness
unfolding chain_lash athwart_part pull recip
stiff_rod tier zero h = rw (length_s tier) (record { cross = record { lt = tt } })
stiff_rod tier (suc j) h = absurd (omega arith)

-- B with S at level 1, by any rule
abbrev pub lashed_by : ℕ → Sheet
lashed_by number = sheet_by number 0 (box_b ∷ []) (rod_s 1 ∷ [])

pub stiff_lashed : (number : ℕ) → S.Stiff (door_tiers (lashed_by number)) (door_lashes (lashed_by number))
unfolding chain_tiers
stiff_lashed number = record { springs = springs; lashes = stiff_rod 1 }
  where
    springs : (i : ℕ) → i < 1 → nat 0 ⊏ (S.tier_at (door_tiers (lashed_by number)) i).K
    springs zero h = record { cross = record { lt = tt } }
    springs (suc i) h = absurd (omega arith)

stiff_e : S.Stiff (door_tiers lashed_above) (door_lashes lashed_above)
unfolding chain_tiers
stiff_e = record { springs = springs; lashes = stiff_rod 2 }
  where
    springs : (i : ℕ) → i < 2 → nat 0 ⊏ (S.tier_at (door_tiers lashed_above) i).K
    springs zero h = record { cross = record { lt = tt } }
    springs (suc zero) h = record { cross = record { lt = tt } }
    springs (suc (suc i)) h = absurd (omega arith)

solved_d : shift (solved lashed) 1 ≈ nat 220725 /q nat 10 /q nat 10930
unfolding from solution shift_of handed_stiffness handed_load shift sumq recip chain_tiers load transverse weight wind
    chain_lash athwart_part pull level_of
solved_d = rw (length_s 1) (record { cross = refl })

solved_e : shift (solved lashed_above) 2 ≈ nat 2918475 /q nat 100 /q nat 18130
unfolding from solution shift_of handed_stiffness handed_load shift sumq recip chain_tiers load transverse weight wind
    chain_lash athwart_part pull level_of
solved_e = rw (length_s 2) (record { cross = refl })

racked_e : S.racking (door_tiers lashed_above) (solved lashed_above) 1 ⊏ nat 0
unfolding from solution shift_of handed_stiffness handed_load shift sumq recip chain_tiers load transverse weight wind
    chain_lash athwart_part pull level_of
racked_e = rw (length_s 2) (record { cross = record { lt = tt } })

pub table : Table
table =
    record {
      stiffness_s = stiffness 1;
      a = figure_a;
      b = figure_b;
      c_moment = figure_c_moment;
      c_tension = figure_c_tension;
      d_one = one (rule_of lashed) door lashed (stiff_lashed 1);
      d = every_shift (rule_of lashed) door lashed (stiff_lashed 1) 1 (nat 220725 /q nat 10 /q nat 10930) solved_d;
      e_one = one (rule_of lashed_above) door lashed_above stiff_e;
      e_shift = every_shift (rule_of lashed_above) door lashed_above stiff_e 2 (nat 2918475 /q nat 100 /q nat 18130) solved_e;
      e_racking = every_racking (rule_of lashed_above) door lashed_above stiff_e 1 (nat 0) racked_e;
      f = figure_f;
      g = figure_g;
      h = length_s 1;
      h_wider = figure_h_wider;
      i_forty = figure_i_forty;
      i_twenty = figure_i_twenty;
      j = figure_j;
    }
