-- Document 01's figures (d) and (e), of every solution of their equations: one box, and two, held by one rod at the uppermost level.
use mathlib.Core.Path.{refl}
use mathlib.Core.List.{List, [], ◌∷◌}
use Prim.Native.Nat.{ℕ, zero, suc, ◌<◌}
use native.Mathlib.Omega.{arith}
use Rattle.arith.specs.Fractions.{Frac, nat, ◌+q◌, ◌*q◌, ◌/q◌, recip, sumq, ◌≈◌, ◌⊏◌}
use Rattle.arith.specs.Lists.{from}
use Rattle.arith.proofs.FractionLaws.{≈-trans, ≈⊑}
use Rattle.arith.proofs.OrderedField.{⊑-⊏-trans}
use Rattle.springs.specs.Equations.{door_spring, Tier, Lash, tier_at, lash_at, shift, racking, Solves, Stiff}
use Rattle.springs.proofs.OneSolution.{handed_stiffness, handed_load, shift_of, solution, exists, unique, same_racking}

-- a tier at the door end, of a load Q
abbrev door : Frac → Tier
door Q = record { K = nat door_spring; Q = Q }

-- rod S at a level
abbrev rod : ℕ → Lash
rod i = record { level = i; stiffness = nat 7200 }

-- F of box B on one end, and of the same with 2,000 kg
abbrev heavy : Frac
heavy = nat 49050

abbrev light : Frac
light = nat 4905

-- the part of F that racks a box's own tier
abbrev share : Frac
share = nat 45 /q nat 100

-- B with S at level 1
abbrev one : List Tier
one = door (share *q heavy) ∷ []

abbrev rod_one : List Lash
rod_one = rod 1 ∷ []

-- B below, the same with 2,000 kg above, S at level 2
abbrev two : List Tier
two = door (share *q heavy +q light) ∷ door (share *q light) ∷ []

abbrev rod_two : List Lash
rod_two = rod 2 ∷ []

stiff_rod : (i j : ℕ) → j < 1 → nat 0 ⊏ (lash_at (rod i ∷ []) j).stiffness
stiff_rod i zero h = record { cross = record { lt = tt } }
stiff_rod i (suc j) h = absurd (omega arith)

stiff_one : Stiff one rod_one
stiff_one = record { springs = springs; lashes = stiff_rod 1 }
  where
    springs : (i : ℕ) → i < 1 → nat 0 ⊏ (tier_at one i).K
    springs zero h = record { cross = record { lt = tt } }
    springs (suc i) h = absurd (omega arith)

stiff_two : Stiff two rod_two
stiff_two = record { springs = springs; lashes = stiff_rod 2 }
  where
    springs : (i : ℕ) → i < 2 → nat 0 ⊏ (tier_at two i).K
    springs zero h = record { cross = record { lt = tt } }
    springs (suc zero) h = record { cross = record { lt = tt } }
    springs (suc (suc i)) h = absurd (omega arith)

solved_one : shift (solution one rod_one) 1 ≈ nat 220725 /q nat 10 /q nat 10930
unfolding from solution shift_of handed_stiffness handed_load shift sumq recip
solved_one = record { cross = refl }

solved_two : shift (solution two rod_two) 2 ≈ nat 2918475 /q nat 100 /q nat 18130
unfolding from solution shift_of handed_stiffness handed_load shift sumq recip
solved_two = record { cross = refl }

racked_two : racking two (solution two rod_two) 1 ⊏ nat 0
unfolding from solution shift_of handed_stiffness handed_load shift sumq recip
racked_two = record { cross = record { lt = tt } }

-- (d) D = 22,072.5 / 10,930 mm
pub figure_d : (Ds : List Frac) → Solves one rod_one Ds → shift Ds 1 ≈ nat 220725 /q nat 10 /q nat 10930
figure_d Ds s =
    ≈-trans (shift Ds 1) (shift (solution one rod_one) 1) (nat 220725 /q nat 10 /q nat 10930)
    ((unique one rod_one Ds (solution one rod_one) stiff_one s (exists one rod_one stiff_one)).same 1) solved_one

-- (e) D of level 2 = 29,184.75 / 18,130 mm; the racking of tier 2 is negative
pub figure_e : (Ds : List Frac) → Solves two rod_two Ds → (shift Ds 2 ≈ nat 2918475 /q nat 100 /q nat 18130) × (racking two Ds 1 ⊏ nat 0)
figure_e Ds s =
    let agree = unique two rod_two Ds (solution two rod_two) stiff_two s (exists two rod_two stiff_two) in (
      ≈-trans (shift Ds 2) (shift (solution two rod_two) 2) (nat 2918475 /q nat 100 /q nat 18130) (agree.same 2) solved_two,
      ⊑-⊏-trans (racking two Ds 1) (racking two (solution two rod_two) 1) (nat 0)
          (≈⊑ (racking two Ds 1) (racking two (solution two rod_two) 1) (same_racking two Ds (solution two rod_two) agree 1)) racked_two,
    )
