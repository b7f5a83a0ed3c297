-- The test of shifts in whole numbers, wherever they come from: each level is in balance but for a small force. Shifts that pass keep the
-- promise (proofs/Certified).
use Rattle.std.specs.Prelude.{Bool, true, cond, ◌&&◌, List, ℕ, zero, suc, ◌+◌, ◌*◌, ◌-◌, ◌/◌, ◌^◌, leb, ltb, get_or}
use Rattle.arith.specs.Inner.Rounding.{scaled_down}
use Rattle.springs.specs.Equations.{closed_spring}
use Rattle.springs.specs.Inner.Promise.{stiffness_scale, farthest}

-- the spring between levels i and i + 1, of n tiers: 0 over the uppermost level
abbrev pub spring_at : ℕ → List ℕ → ℕ → ℕ
spring_at n k i = cond (ltb i n) (get_or k i 0) 0

-- level i + 1 under shifts d, in 2^-28 N: what holds it back, its lashes' part rounded down ..
unfoldable pub pulled : ℕ → List ℕ → List ℕ → List ℕ → ℕ → ℕ
pulled n k κ d i =
    get_or k i 0 * get_or d (suc i) 0 + spring_at n k (suc i) * get_or d (suc i) 0 + scaled_down (get_or κ i 0) (get_or d (suc i) 0) stiffness_scale

-- .. and what pushes it
unfoldable pub pushed : ℕ → List ℕ → List ℕ → List ℕ → ℕ → ℕ
pushed n k ω d i = get_or k i 0 * get_or d i 0 + spring_at n k (suc i) * get_or d (suc (suc i)) 0 + get_or ω i 0

-- what a level of shift d may be out of balance by: 0.00494 N less what the rounding of its lashes' stiffness may add
abbrev pub allowed : ℕ
allowed = 1326000

unfoldable pub slack_at : ℕ → ℕ
slack_at d = allowed - d / 2 ^ 20

abbrev pub alike : ℕ → ℕ → ℕ → Bool
alike x y slack = leb x (y + slack) && leb y (x + slack)

abbrev pub level_in_balance : ℕ → List ℕ → List ℕ → List ℕ → List ℕ → ℕ → Bool
level_in_balance n k κ ω d i = alike (pulled n k κ d i) (pushed n k ω d i) (slack_at (get_or d (suc i) 0))

-- levels 1 to m of n; all of them
unfoldable pub in_balance_to : ℕ → List ℕ → List ℕ → List ℕ → List ℕ → ℕ → Bool
in_balance_to n k κ ω d zero = true
in_balance_to n k κ ω d (suc i) = level_in_balance n k κ ω d i && in_balance_to n k κ ω d i

abbrev pub in_balance : ℕ → List ℕ → List ℕ → List ℕ → List ℕ → Bool
in_balance n k κ ω d = in_balance_to n k κ ω d n

-- the most force of a spring at the farthest shift
abbrev pub most_force : ℕ
most_force = closed_spring * farthest
