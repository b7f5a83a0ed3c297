-- One solution for every taken sheet: the equations of each end have one, any two agree at every level, and no level shifts to windward.
use mathlib.Core.List.{List}
use Rattle.arith.specs.Fractions.{Frac}
use Rattle.springs.specs.Theorems.{Agree}
use Rattle.springs.proofs.OneSolution as O
use Rattle.springs.proofs.Growth.{no_shift_to_windward}
use Rattle.sheet.specs.declared.Sheet.{Sheet}
use Rattle.statics.specs.Loads.{Rule}
use Rattle.statics.specs.Ends.{end_tiers, end_lashes, EndSolved, OneSolution}
use Rattle.sheet.specs.Ends.{End, tiers_of}
use Rattle.statics.specs.Theorems.{Proper, NoWindwardShift}
use Rattle.sheet.specs.Inner.Limits.{SheetLimits}
use Rattle.statics.proofs.EndChain.{end_stiff}
use Rattle.statics.proofs.LoadsGrow.{loads_leeward}

-- the shifts of the levels of an end, by elimination
abbrev pub solution_of : Rule → End → Sheet → List Frac
solution_of rule e t = O.solution (end_tiers rule e t) (end_lashes e t)

module _ (rule : Rule) (e : End) {t : Sheet} (f : SheetLimits t) where
  pub exists : EndSolved rule e t (solution_of rule e t)
  exists = record { solves = O.exists (end_tiers rule e t) (end_lashes e t) (end_stiff rule e t f) }

  pub unique : {Ds Es : List Frac} → EndSolved rule e t Ds → EndSolved rule e t Es → Agree Ds Es
  unique {Ds} {Es} s r = O.unique (end_tiers rule e t) (end_lashes e t) Ds Es (end_stiff rule e t f) s.solves r.solves

  pub one_solution : OneSolution rule e t
  one_solution =
      record { shifts = solution_of rule e t; exists = exists; unique = λ Ds Es s r. (unique s r).same }

  pub leeward : Proper rule → NoWindwardShift rule e t
  leeward p Ds s i =
      no_shift_to_windward (end_tiers rule e t) (end_lashes e t) Ds (end_stiff rule e t f) s.solves
      (λ j h. loads_leeward rule p e (tiers_of t) j) i
