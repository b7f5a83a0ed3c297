-- The figures of an end that the check computes report its forces and fit four bytes.
use mathlib.Core.Path.{◌≡◌}
use mathlib.Core.List.{List}
use Prim.Native.Nat.{ℕ, suc, ◌≤◌}
use native.Mathlib.Omega.{arith}
use lib.IntN.{pos}
use lib.ListN.{length}
use Rattle.arith.specs.Fractions.{nat, recip, ◌/q◌, ◌⊑◌}
use Rattle.springs.specs.Inner.Promise.{Promised, lash_error, racking_error}
use Rattle.springs.proofs.Solved.{solved_promised}
use Rattle.sheet.specs.declared.Tier.{Tier}
use Rattle.sheet.specs.declared.Lash.{Lash}
use Rattle.sheet.specs.declared.Sheet.{Sheet}
use Rattle.statics.specs.declared.LoadRule.{LoadRule}
use Rattle.statics.specs.Loads.{Rule, StandsFor}
use Rattle.sheet.specs.Ends.{End, tiers_of, lashes_of}
use Rattle.statics.specs.Forces as F
use Rattle.statics.specs.Reported.{reported_size, EndFigured}
use Rattle.statics.specs.Inner.Computed.{springs_of, stiffnesses_of, loads_of, figures_at, shifts_of, end_figures_by}
use Rattle.sheet.specs.Inner.Limits.{SheetLimits}
use Rattle.statics.proofs.Arrays.{padded_behind}
use Rattle.statics.proofs.Inputs.{solvable, near}
use Rattle.statics.proofs.EndReported.{promised_close, reported}
use Rattle.statics.proofs.Bounds.{athwart_up, figured}

lash_error_lem : lash_error ⊑ nat 5 /q nat 100
unfolding recip
lash_error_lem = record { cross = record { le = tt } }

racking_error_lem : racking_error ⊑ nat 5 /q nat 100
unfolding recip
racking_error_lem = record { cross = record { le = tt } }

module _ {rule : Rule} {c : LoadRule} (stands : StandsFor c rule) (e : End) {t : Sheet} (f : SheetLimits t) where
  abbrev ts : List Tier
  ts = tiers_of t

  abbrev ls : List Lash
  ls = lashes_of e t

  abbrev d : List ℕ
  d = shifts_of c e t

  promised : Promised t.ntiers (springs_of e ts) (stiffnesses_of ls) (loads_of c ts) d
  promised = solved_promised t.ntiers (springs_of e ts) (stiffnesses_of ls) (loads_of c ts) (solvable stands e f)

  -- behind the counts stands 0
  blank : (x : F.Force) (i : ℕ) → F.entry_count x e t ≤ i → reported_size x (end_figures_by c e t) i ≡ 0
  unfolding figures_at
  blank F.racking i h = rw (padded_behind _ (pos 0) 10 t.ntiers i h)
  blank F.compression i h = padded_behind _ 0 11 (suc t.ntiers) i h
  blank F.tension i h = padded_behind _ 0 10 t.ntiers i h
  blank F.lash_tension j h = padded_behind _ 0 8 (length ls) j h
  blank F.lash_athwart j h = padded_behind _ 0 8 (length ls) j h
  blank F.lash_vertical j h = padded_behind _ 0 8 (length ls) j h

  pub end_figured : EndFigured 9 rule e t (end_figures_by c e t)
  end_figured =
      figured stands e f (omega arith)
      (λ Ds s.
      reported rule e t d Ds f s
      (promised_close rule e t (springs_of e ts) (stiffnesses_of ls) (loads_of c ts) d Ds lash_error_lem racking_error_lem promised
      (near stands e f) s)
      (λ j h. (athwart_up stands e f s j h).most))
      blank
