-- Document 02's fleet standard, computed from the definitions.
use mathlib.Core.List.{List}
use mathlib.Core.Path.{refl}
use Rattle.sheet.specs.Lashings.{level_of}
use Rattle.arith.specs.Fractions.{Frac, nat, ◌/q◌, recip, sumq, ◌≈◌}
use Rattle.arith.specs.Lists.{from}
use Rattle.sheet.specs.Ends.{door, tiers_of, lashes_of}
use Rattle.springs.specs.Equations.{shift}
use Rattle.springs.proofs.OneSolution.{handed_stiffness, handed_load, shift_of, solution}
use Rattle.statics.specs.Loads.{weight, transverse, box_length, wind, load, rule_of}
use Rattle.statics.specs.Lashes.{pull, athwart_part}
use Rattle.statics.specs.Ends.{chain_tiers, chain_lash}
use Rattle.statics.specs.Posts.{level_height, turning, moment}
use Rattle.answer.specs.Table.{lowest_load}
use Rattle.answer.specs.FleetStandard.{fleet_alone, fleet_pair, fleet_lashed, exposed_by, FleetStandard}
use Rattle.answer.proofs.Solutions.{one, every_shift}
use Rattle.answer.proofs.Table.{length_s, solved, stiff_lashed}

load_alone : lowest_load fleet_alone ≈ nat 24525
unfolding chain_tiers load transverse weight wind sumq recip
load_alone = record { cross = refl }

load_pair : lowest_load fleet_pair ≈ nat 73575
unfolding chain_tiers load transverse weight wind sumq recip
load_pair = record { cross = refl }

-- with no lash the shifts do not enter
moment_alone : (Ds : List Frac) → moment (rule_of fleet_alone) (tiers_of fleet_alone) (lashes_of door fleet_alone) Ds 0 ≈ nat 63544275
unfolding moment turning transverse weight wind sumq recip level_height
moment_alone Ds = record { cross = refl }

solved_lashed : shift (solved fleet_lashed) 1 ≈ nat 24525 /q nat 10930
unfolding from solution shift_of handed_stiffness handed_load shift sumq recip chain_tiers load transverse weight wind
    chain_lash athwart_part pull level_of
solved_lashed = rw (length_s 1) (record { cross = refl })

wind_by_one : lowest_load (exposed_by 1) ≈ nat 3160566864 /q nat 100000
unfolding chain_tiers load transverse weight wind box_length sumq recip
wind_by_one = record { cross = refl }

wind_by_two : lowest_load (exposed_by 2) ≈ nat 3405816864 /q nat 100000
unfolding chain_tiers load transverse weight wind box_length sumq recip
wind_by_two = record { cross = refl }

pub fleet_standard : FleetStandard
fleet_standard =
    record {
      load_alone = load_alone;
      load_pair = load_pair;
      moment_alone = moment_alone;
      lashed_one = one (rule_of fleet_lashed) door fleet_lashed (stiff_lashed 2);
      lashed = every_shift (rule_of fleet_lashed) door fleet_lashed (stiff_lashed 2) 1 (nat 24525 /q nat 10930) solved_lashed;
      wind_by_one = wind_by_one;
      wind_by_two = wind_by_two;
    }
