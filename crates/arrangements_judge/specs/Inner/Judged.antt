-- Contracts of inner functions: what is given of a stack before its lashes are chosen, and whether it is accepted with them. Nothing here
-- need be believed.
use Rattle.std.specs.Prelude.{ℕ, Bool, List, ◌≡◌, length, take}
use Rattle.sheet.specs.declared.Lash.{Lash}
use Rattle.sheet.specs.declared.Tier.{Tier}
use Rattle.sheet.specs.declared.Sheet.{Sheet}
use Rattle.sheet.specs.Ends.{door, closed, tiers_of}
use Rattle.statics.specs.Inner.Computed.{springs_of, stiffnesses_of, figures_by, load_rule_of}
use Rattle.figures_tiers.specs.Inner.Loads.{Loaded, TiersMeasured}
use Rattle.figures.specs.Inner.Ends.{Workable, figures_with}
use Rattle.limits.specs.declared.PullLimit.{PullLimit}
use Rattle.limits.specs.Inner.LowerOf.{lower_of}
use Rattle.answer.specs.Limits.{safe_load}
use Rattle.answer.specs.Findings.{accepted}
use Rattle.end_verdict.specs.Inner.NoneOver.{none_found}
use Rattle.gear.specs.Gear.{with_lashes}
use Rattle.gear.specs.declared.Gear.{Gear}
use Rattle.arrangements_judge.specs.declared.Stack.{Stack}

-- the lashes in arrays
abbrev pub lashes_in : Gear → List Lash
lashes_in g = take g.count g.lashes

-- an end of n tiers of heights hs with springs k and m lashes ls, whose stiffnesses by level are κ, loads ω on the levels and half of the
-- weights above them
pub record EndGiven (n : ℕ) (k hs : List ℕ) (m : ℕ) (ls : List Lash) (κ ω weights : List ℕ) : Type 0 where
  pub works : Workable n k hs m ls ω weights
  pub counted : length ls ≡ m
  pub levelled : κ ≡ stiffnesses_of ls

-- whether it has no finding, where its lashes are the first m of an array
abbrev pub no_finding : ℕ → List ℕ → List Tier → List Lash → ℕ → PullLimit → List ℕ → Bool
no_finding n k ts lashes m pull ω = none_found n pull lashes m (figures_with n k ts (take m lashes) ω)

-- what is given of a stack: the lower limit of a pull, the springs of the door end and of the closed end, heights, loads and weights
pub record StackGiven (t : Sheet) (pull : PullLimit) (k h hs ω weights : List ℕ) : Type 0 where
  pub lower : pull ≡ lower_of (safe_load t.head.lockMaterial t.head.lockBreakingLoad)
  pub door_springs : k ≡ springs_of door (tiers_of t)
  pub closed_springs : h ≡ springs_of closed (tiers_of t)
  pub loaded : Loaded (load_rule_of t) t.ntiers (tiers_of t) ω
  pub measured : TiersMeasured t.ntiers (tiers_of t) hs weights

abbrev pub Given : Stack → Type 0
Given s = StackGiven s.sheet s.pull s.springs.door s.springs.closed s.tiers.heights s.tiers.loads s.tiers.weights

-- whether the check accepts it with these lashes at both ends
abbrev pub accepted_with : List Lash → Sheet → Bool
accepted_with ls t = accepted (with_lashes ls t) (figures_by (load_rule_of t) (with_lashes ls t))
