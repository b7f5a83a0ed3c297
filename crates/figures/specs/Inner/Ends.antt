-- Contracts of inner functions: what the computation of an end's figures takes.
use Rattle.std.specs.Prelude.{List, ℕ, ◌^◌, ◌<◌, ◌≤◌, get_or, length}
use Rattle.sheet.specs.Inner.Limits.{at_level, LashLimits}
use Rattle.sheet.specs.Layout.{blank_lash}
use Rattle.sheet.specs.declared.Lash.{Lash}
use Rattle.sheet.specs.declared.Sheet.{Sheet}
use Rattle.sheet.specs.declared.Tier.{Tier}
use Rattle.sheet.specs.Ends.{End, tiers_of, lashes_of}
use Rattle.statics.specs.Inner.InArrays.{most_in, least_in}
use Rattle.springs.specs.Inner.Elimination.{solved}
use Rattle.statics.specs.declared.EndFigures.{EndFigures}
use Rattle.statics.specs.Inner.Computed.{stiffnesses_of, figures_at}
use Rattle.springs.specs.Equations.{door_spring, closed_spring}

-- an end may be worked: n tiers of heights hs with springs k, m lashes ls, the loads ω on the levels, and half of the weights above them
pub record Workable (n : ℕ) (k hs : List ℕ) (m : ℕ) (ls : List Lash) (ω weights : List ℕ) : Type 0 where
  pub few : n ≤ 10
  pub springs : (i : ℕ) → i < n → (door_spring ≤ get_or k i 0) × (get_or k i 0 ≤ closed_spring)
  pub heights : (i : ℕ) → i < n → get_or hs i 0 ≤ 2896
  pub few_lashes : m ≤ 8
  pub each : (j : ℕ) → j < length ls → LashLimits n (get_or ls j blank_lash)
  pub each_level : (i : ℕ) → at_level i ls ≤ 4
  pub loaded : (i : ℕ) → i < n → get_or ω i 0 ≤ 2 ^ 46
  pub vmax_light : (i : ℕ) → get_or (most_in weights) i 0 ≤ 2 ^ 40
  pub vmin_light : (i : ℕ) → get_or (least_in weights) i 0 ≤ 2 ^ 40

-- the figures of an end of n tiers, from its springs, tiers and lashes and the loads, and those of an end of a sheet
abbrev pub figures_with : ℕ → List ℕ → List Tier → List Lash → List ℕ → EndFigures
figures_with n k ts ls ω = figures_at n k ts ls (solved n k (stiffnesses_of ls) ω)

abbrev pub end_figures : End → Sheet → List ℕ → List ℕ → EndFigures
end_figures e t k ω = figures_with t.ntiers k (tiers_of t) (lashes_of e t) ω
