-- The rule numbers of a sheet: their shares, and the theorems for any share from 0 to 1 cited for both.
use mathlib.Core.Path.{refl}
use Rattle.arith.specs.Fractions.{recip}
use Rattle.sheet.specs.declared.Sheet.{Sheet}
use Rattle.sheet.specs.Inner.Limits.{SheetLimits}
use Rattle.statics.specs.Loads.{rule_of}
use Rattle.statics.specs.Theorems.{Proper, SharesByNumber, ByNumber}
use Rattle.statics.proofs.EndChain.{rule_stands}
use Rattle.statics.proofs.LoadsGrow.{stands_proper}
use Rattle.statics.proofs.OneSolution.{one_solution, leeward}

pub shares_by_number : SharesByNumber
unfolding recip
shares_by_number = (record { cross = refl }, record { cross = refl })

pub by_number : {t : Sheet} → SheetLimits t → ByNumber t
by_number {t} f =
    let proper : Proper (rule_of t) = stands_proper (rule_stands f) in
    record { proper = proper; one = λ e. one_solution (rule_of t) e f; leeward = λ e. leeward (rule_of t) e f proper }
