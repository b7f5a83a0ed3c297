-- What holds of an end's equations for any tier count and any spring and lash stiffer than zero. Each is proved in proofs/: OneSolution,
-- Growth, Stability.
use Rattle.std.specs.Prelude.{List, ◌≡◌, ℕ, suc, ◌<◌, length}
use Rattle.arith.specs.Fractions.{Frac, nat, ◌+q◌, ◌-q◌, ◌*q◌, absq, ◌≈◌, ◌⊑◌, sumq}
use Rattle.arith.specs.Lists.{below}
use Rattle.springs.specs.Equations.{Tier, Lash, tier_at, shift, stiffness_at, load_at, racking, Solves, Stiff}

-- two lists of shifts agree: at every level, by cross products
pub record Agree (Ds Es : List Frac) : Type 0 where
  pub levels : length Ds ≡ length Es
  pub same : (i : ℕ) → shift Ds i ≈ shift Es i

-- the equations have exactly one solution
pub record Determined (ts : List Tier) (ls : List Lash) : Type 0 where
  pub shifts : List Frac
  pub exists : Solves ts ls shifts
  pub unique : (Ds : List Frac) → Solves ts ls Ds → Agree Ds shifts

abbrev pub OneSolution : Type 0
OneSolution = (ts : List Tier) (ls : List Lash) → Stiff ts ls → Determined ts ls

-- no shift to windward: where no level's load is below zero, no level's shift is
abbrev pub NoShiftToWindward : Type 0
NoShiftToWindward =
    (ts : List Tier) (ls : List Lash) (Ds : List Frac) →
    Stiff ts ls →
    Solves ts ls Ds →
    ((i : ℕ) → i < length ts → nat 0 ⊑ load_at ts i) →
    (i : ℕ) →
    nat 0 ⊑ shift Ds i

-- us are ts under level loads no smaller
pub record Heavier (ts us : List Tier) : Type 0 where
  pub tiers : length us ≡ length ts
  pub springs : (i : ℕ) → i < length ts → (tier_at us i).K ≈ (tier_at ts i).K
  pub loads : (i : ℕ) → i < length ts → load_at ts i ⊑ load_at us i

-- growth with the loads: then no level shifts less
abbrev pub GrowthWithLoads : Type 0
GrowthWithLoads =
    (ts us : List Tier) (ls : List Lash) (Ds Es : List Frac) →
    Stiff ts ls →
    Heavier ts us →
    Solves ts ls Ds →
    Solves us ls Es →
    (i : ℕ) →
    shift Ds i ⊑ shift Es i

-- what level i + 1 is out of balance by under any shifts ds of levels 1 to n, in N; and all levels together
abbrev pub residual : List Tier → List Lash → List Frac → ℕ → Frac
residual ts ls ds i =
    racking ts ds i -q racking ts ds (suc i) +q stiffness_at ls (suc i) *q shift ds (suc i) -q load_at ts i

abbrev pub residuals : List Tier → List Lash → List Frac → Frac
residuals ts ls ds = sumq (λ i. absq (residual ts ls ds i)) (below (length ts))

-- stability: the sum of stiffness × shift error over the lashes, and the error of each racking, are at most the sum of the residuals
pub record Stable (ts : List Tier) (ls : List Lash) (ds Ds : List Frac) : Type 0 where
  pub lashes : sumq (λ l. l.stiffness *q absq (shift ds l.level -q shift Ds l.level)) ls ⊑ residuals ts ls ds
  pub rackings : (i : ℕ) → i < length ts → absq (racking ts ds i -q racking ts Ds i) ⊑ residuals ts ls ds

abbrev pub Stability : Type 0
Stability =
    (ts : List Tier) (ls : List Lash) (ds Ds : List Frac) →
    Stiff ts ls →
    length ds ≡ length ts →
    Solves ts ls Ds →
    Stable ts ls ds Ds
