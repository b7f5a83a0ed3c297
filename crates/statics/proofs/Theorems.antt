-- The theorems of specs/Theorems hold.
use Rattle.sheet.proofs.SheetLimits.{sheet_limits}
use Rattle.statics.specs.Theorems.{Theorems}
use Rattle.statics.proofs.Moment.{moment_is}
use Rattle.statics.proofs.LoadsGrow.{loads_leeward, loads_grow, stands_proper}
use Rattle.statics.proofs.OneSolution.{one_solution, leeward}
use Rattle.statics.proofs.RuleNumbers.{shares_by_number, by_number}
use Rattle.statics.proofs.Turned.{own_springs, turn_swaps_springs, turn_keeps_forces}
use Rattle.statics.proofs.Relief.{tension_by_tier}

pub theorems : Theorems
theorems =
    record {
      one_solution = λ rule e t f. one_solution rule e (sheet_limits f);
      moment_by_rackings = λ rule e ts ls Ds s i. moment_is rule e ts ls Ds s i;
      no_windward_load = λ rule p e ts. loads_leeward rule p e ts;
      no_windward_shift = λ rule p e t f. leeward rule e (sheet_limits f) p;
      loads_grow = λ rule p e ts us h. loads_grow rule p e ts us h;
      stands_proper = λ c rule s. stands_proper s;
      shares_by_number = shares_by_number;
      by_number = λ t f. by_number (sheet_limits f);
      own_springs = own_springs;
      turn_swaps_springs = turn_swaps_springs;
      turn_keeps_forces = turn_keeps_forces;
      tension_by_tier = tension_by_tier;
    }
