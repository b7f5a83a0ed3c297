-- Any two solutions of an end's equations agree: what holds of one, as of that by elimination, holds of every solution.
use mathlib.Core.List.{List}
use Prim.Native.Nat.{ℕ}
use Rattle.arith.specs.Fractions.{Frac, ◌≈◌, ◌⊏◌}
use Rattle.arith.proofs.FractionLaws.{≈-trans, ≈⊑}
use Rattle.arith.proofs.OrderedField.{⊑-⊏-trans}
use Rattle.sheet.specs.declared.Sheet.{Sheet}
use Rattle.sheet.specs.Ends.{End, tiers_of, lashes_of}
use Rattle.springs.specs.Equations as S
use Rattle.springs.specs.Equations.{shift}
use Rattle.springs.specs.Theorems.{Agree}
use Rattle.springs.proofs.OneSolution.{solution, exists, unique, same_racking}
use Rattle.statics.specs.Loads.{Rule}
use Rattle.statics.specs.Ends.{end_tiers, end_lashes, EndSolved, OneSolution}
use Rattle.statics.specs.Posts.{tension}
use Rattle.statics.proofs.SameShifts.{tension_same}

module _ (rule : Rule) (e : End) (t : Sheet) (stiff : S.Stiff (end_tiers rule e t) (end_lashes e t)) where
  abbrev solved : List Frac
  solved = solution (end_tiers rule e t) (end_lashes e t)

  agree : (Ds Es : List Frac) → EndSolved rule e t Ds → EndSolved rule e t Es → Agree Ds Es
  agree Ds Es s r = unique (end_tiers rule e t) (end_lashes e t) Ds Es stiff s.solves r.solves

  there : EndSolved rule e t solved
  there = record { solves = exists (end_tiers rule e t) (end_lashes e t) stiff }

  pub one : OneSolution rule e t
  one = record { shifts = solved; exists = there; unique = λ Ds Es s r. (agree Ds Es s r).same }

  pub every_shift :
      (i : ℕ) (x : Frac) →
      shift (solution (end_tiers rule e t) (end_lashes e t)) i ≈ x →
      (Ds : List Frac) →
      EndSolved rule e t Ds →
      shift Ds i ≈ x
  every_shift i x q Ds s = ≈-trans (shift Ds i) (shift solved i) x ((agree Ds solved s there).same i) q

  pub every_racking :
      (i : ℕ) (x : Frac) →
      S.racking (end_tiers rule e t) (solution (end_tiers rule e t) (end_lashes e t)) i ⊏ x →
      (Ds : List Frac) →
      EndSolved rule e t Ds →
      S.racking (end_tiers rule e t) Ds i ⊏ x
  every_racking i x q Ds s =
      ⊑-⊏-trans (S.racking (end_tiers rule e t) Ds i) (S.racking (end_tiers rule e t) solved i) x
      (≈⊑ (S.racking (end_tiers rule e t) Ds i) (S.racking (end_tiers rule e t) solved i)
      (same_racking (end_tiers rule e t) Ds solved (agree Ds solved s there) i)) q

  -- the tension at a level
  abbrev tension_at : List Frac → ℕ → Frac
  tension_at Ds i = tension rule (tiers_of t) (lashes_of e t) Ds i

  -- at the shifts Es of a solution
  pub every_tension :
      (Es : List Frac) →
      EndSolved rule e t Es →
      (i : ℕ) (x : Frac) →
      tension rule (tiers_of t) (lashes_of e t) Es i ≈ x →
      (Ds : List Frac) →
      EndSolved rule e t Ds →
      tension rule (tiers_of t) (lashes_of e t) Ds i ≈ x
  every_tension Es r i x q Ds s =
      ≈-trans (tension_at Ds i) (tension_at Es i) x
      (tension_same rule (tiers_of t) (lashes_of e t) Ds Es (agree Ds Es s r) i) q
