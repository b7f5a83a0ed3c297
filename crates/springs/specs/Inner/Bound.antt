-- How far elimination in whole numbers may lie from the exact shifts, for any tier count and any springs, lashes and loads: the numbers of
-- specs/Promise are this bound under document 01's limits.
use Rattle.std.specs.Prelude.{List, ℕ, suc, ◌+◌, ◌*◌, ◌-◌, ◌<◌, max, get_or}
use Rattle.arith.specs.Fractions.{Frac, nat, ◌-q◌, ◌*q◌, ◌/q◌, absq, ◌⊑◌, sumq}
use Rattle.arith.specs.Lists.{below}
use Rattle.springs.specs.Equations.{Tier, Lash, tier_at, shift, racking, Solves}
use Rattle.springs.specs.Inner.Promise.{stiffness_scale, shift_scale, Near}
use Rattle.springs.specs.Inner.Balance.{spring_at}
use Rattle.springs.specs.Inner.Elimination.{divisor, stiffness_to, shift_at}

-- the most that level i + 1 may be out of balance by, in 2^-50 N. Too much to leeward: four units of the lashes' stiffness and one of what
-- is handed down, at its shift, and the rounded shift over it; too little: the remainder of its own shift, one unit of load handed down and
-- four of its own
abbrev pub level_error : ℕ → List ℕ → List ℕ → List ℕ → ℕ → ℕ
level_error n k κ ω i =
    max (5 * shift_at n k κ ω (suc i) + spring_at n k (suc i) * stiffness_scale)
    (divisor (get_or k i 0) (get_or κ i 0) (stiffness_to k κ (suc i) (n - suc i)) + 5 * stiffness_scale)

-- all levels together, in N
abbrev pub summed_error : ℕ → List ℕ → List ℕ → List ℕ → Frac
summed_error n k κ ω = sumq (λ i. nat (level_error n k κ ω i)) (below n) /q nat (stiffness_scale * shift_scale)

-- the shift of level i by elimination, in mm
abbrev pub shift_by : ℕ → List ℕ → List ℕ → List ℕ → ℕ → Frac
shift_by n k κ ω i = nat (shift_at n k κ ω i) /q nat shift_scale

pub record Bounded (n : ℕ) (k κ ω : List ℕ) (ts : List Tier) (ls : List Lash) (Ds : List Frac) : Type 0 where
  pub lashes : sumq (λ l. l.stiffness *q absq (shift_by n k κ ω l.level -q shift Ds l.level)) ls ⊑ summed_error n k κ ω
  pub rackings :
      (i : ℕ) →
      i < n →
      absq ((tier_at ts i).K *q (shift_by n k κ ω (suc i) -q shift_by n k κ ω i) -q racking ts Ds i) ⊑ summed_error n k κ ω

-- for every exact chain near the inputs, and every solution of it (proofs/Bound)
abbrev pub SummedBound : Type 0
SummedBound =
    (n : ℕ) (k κ ω : List ℕ) (ts : List Tier) (ls : List Lash) (Ds : List Frac) →
    Near n k κ ω ts ls →
    Solves ts ls Ds →
    Bounded n k κ ω ts ls Ds
