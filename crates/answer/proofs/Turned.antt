-- Document 02's turned boxes, computed from the definitions.
use mathlib.Core.List.{List}
use mathlib.Core.Path.{refl}
use Prim.Native.Nat.{ℕ, zero, suc, ◌<◌}
use native.Mathlib.Omega.{arith}
use Rattle.sheet.specs.Lashings.{level_of}
use Rattle.arith.specs.Fractions.{Frac, nat, ◌/q◌, recip, sumq, ◌≈◌, ◌⊏◌}
use Rattle.arith.specs.Lists.{from}
use Rattle.sheet.specs.declared.Sheet.{Sheet}
use Rattle.sheet.specs.Ends.{End, door, closed}
use Rattle.springs.specs.Equations as S
use Rattle.springs.specs.Equations.{shift}
use Rattle.springs.proofs.OneSolution.{handed_stiffness, handed_load, shift_of, solution}
use Rattle.statics.specs.Loads.{weight, transverse, box_length, wind, load, rule_of}
use Rattle.statics.specs.Lashes.{pull, athwart_part}
use Rattle.statics.specs.Ends.{chain_tiers, chain_lash, end_tiers, end_lashes}
use Rattle.answer.specs.Table.{lowest_load}
use Rattle.answer.specs.Turned.{exposed_turned, lashed_turned, mixed, Turned}
use Rattle.answer.proofs.Solutions.{one, every_shift}
use Rattle.answer.proofs.Table.{length_s, stiff_rod}

abbrev solved : End → Sheet → List Frac
solved e t = solution (end_tiers (rule_of t) e t) (end_lashes e t)

load_same : lowest_load lashed_turned ≈ nat 220725 /q nat 10
unfolding chain_tiers load transverse weight wind sumq recip
load_same = record { cross = refl }

wind_same : wind exposed_turned ≈ nat 1906633728 /q nat 100000
unfolding wind box_length recip
wind_same = record { cross = refl }

-- every spring and lash is stiffer than zero
stiff_door : S.Stiff (end_tiers (rule_of lashed_turned) door lashed_turned) (end_lashes door lashed_turned)
unfolding chain_tiers
stiff_door = record { springs = springs; lashes = stiff_rod 1 }
  where
    springs : (i : ℕ) → i < 1 → nat 0 ⊏ (S.tier_at (end_tiers (rule_of lashed_turned) door lashed_turned) i).K
    springs zero h = record { cross = record { lt = tt } }
    springs (suc i) h = absurd (omega arith)

stiff_closed : S.Stiff (end_tiers (rule_of lashed_turned) closed lashed_turned) (end_lashes closed lashed_turned)
unfolding chain_tiers
stiff_closed = record { springs = springs; lashes = λ j h. absurd (omega arith) }
  where
    springs : (i : ℕ) → i < 1 → nat 0 ⊏ (S.tier_at (end_tiers (rule_of lashed_turned) closed lashed_turned) i).K
    springs zero h = record { cross = record { lt = tt } }
    springs (suc i) h = absurd (omega arith)

stiff_mixed : S.Stiff (end_tiers (rule_of mixed) door mixed) (end_lashes door mixed)
unfolding chain_tiers
stiff_mixed = record { springs = springs; lashes = stiff_rod 2 }
  where
    springs : (i : ℕ) → i < 2 → nat 0 ⊏ (S.tier_at (end_tiers (rule_of mixed) door mixed) i).K
    springs zero h = record { cross = record { lt = tt } }
    springs (suc zero) h = record { cross = record { lt = tt } }
    springs (suc (suc i)) h = absurd (omega arith)

solved_door : shift (solved door lashed_turned) 1 ≈ nat 220725 /q nat 10 /q nat 22890
unfolding from solution shift_of handed_stiffness handed_load shift sumq recip chain_tiers load transverse weight wind
    chain_lash athwart_part pull level_of
solved_door = rw (length_s 1) (record { cross = refl })

solved_closed : shift (solved closed lashed_turned) 1 ≈ nat 220725 /q nat 10 /q nat 3730
unfolding from solution shift_of handed_stiffness handed_load shift sumq recip chain_tiers load transverse weight wind
solved_closed = record { cross = refl }

solved_lower : shift (solved door mixed) 1 ≈ nat 3719625 /q nat 2644636
unfolding from solution shift_of handed_stiffness handed_load shift sumq recip chain_tiers load transverse weight wind
    chain_lash athwart_part pull level_of
solved_lower = rw (length_s 2) (record { cross = refl })

solved_upper : shift (solved door mixed) 2 ≈ nat 18034377 /q nat 26446360
unfolding from solution shift_of handed_stiffness handed_load shift sumq recip chain_tiers load transverse weight wind
    chain_lash athwart_part pull level_of
solved_upper = rw (length_s 2) (record { cross = refl })

pub turned : Turned
turned =
    record {
      load_same = load_same;
      wind_same = wind_same;
      lashed_one = one (rule_of lashed_turned) door lashed_turned stiff_door;
      lashed_door = every_shift (rule_of lashed_turned) door lashed_turned stiff_door 1 (nat 220725 /q nat 10 /q nat 22890) solved_door;
      lashed_closed =
          every_shift (rule_of lashed_turned) closed lashed_turned stiff_closed 1
          (nat 220725 /q nat 10 /q nat 3730) solved_closed;
      mixed_one = one (rule_of mixed) door mixed stiff_mixed;
      mixed_lower = every_shift (rule_of mixed) door mixed stiff_mixed 1 (nat 3719625 /q nat 2644636) solved_lower;
      mixed_upper = every_shift (rule_of mixed) door mixed stiff_mixed 2 (nat 18034377 /q nat 26446360) solved_upper;
    }
