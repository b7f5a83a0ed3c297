-- The solver's steps in whole numbers: elimination from the top down, then the shifts from the deck up; and what the solver returns. Other
-- crates cite `solved` alone, and by its name.
use Rattle.std.specs.Prelude.{cond, List, map, ◌≡◌, ℕ, zero, suc, ◌+◌, ◌*◌, ◌-◌, ◌≤◌, ltb, get_or}
use Rattle.arith.specs.Lists.{below}
use Rattle.arith.specs.Inner.Rounding.{scaled_down}
use Rattle.springs.specs.Equations.{door_spring, closed_spring}
use Rattle.springs.specs.Inner.Promise.{stiffness_scale, most_held, most_loaded}
use Rattle.springs.specs.Inner.Candidate.{candidate}
use Rattle.springs.specs.Inner.Balance.{in_balance}

-- a tier of spring k, over it a level of lashes κ and load ω, to which the tiers above hand down the stiffness x and the load y
abbrev pub divisor : ℕ → ℕ → ℕ → ℕ
divisor k κ x = k * stiffness_scale + (κ + x)

-- what the level under the tier gets: stiffness ..
unfoldable pub stiffness_down : ℕ → ℕ → ℕ → ℕ
stiffness_down k κ x = scaled_down (k * (κ + x)) stiffness_scale (divisor k κ x)

-- .. and load
unfoldable pub load_down : ℕ → ℕ → ℕ → ℕ → ℕ → ℕ
load_down k κ ω x y = scaled_down (k * (ω + y)) stiffness_scale (divisor k κ x)

-- the shift of the level over the tier, where the one under it has the shift p
unfoldable pub shift_up : ℕ → ℕ → ℕ → ℕ → ℕ → ℕ → ℕ
shift_up k κ ω x y p = scaled_down (ω + y + k * p) stiffness_scale (divisor k κ x)

-- all levels: what the m tiers over level i, springs k, with the lashes κ and the loads ω of the levels over them, hand down to it:
-- stiffness ..
unfoldable pub stiffness_to : List ℕ → List ℕ → ℕ → ℕ → ℕ
stiffness_to k κ i zero = 0
stiffness_to k κ i (suc m) = stiffness_down (get_or k i 0) (get_or κ i 0) (stiffness_to k κ (suc i) m)

-- .. and load
unfoldable pub load_to : List ℕ → List ℕ → List ℕ → ℕ → ℕ → ℕ
load_to k κ ω i zero = 0
load_to k κ ω i (suc m) = load_down (get_or k i 0) (get_or κ i 0) (get_or ω i 0) (stiffness_to k κ (suc i) m) (load_to k κ ω (suc i) m)

-- the shift of level i, of n: 0 at the deck and behind n
unfoldable pub shift_at : ℕ → List ℕ → List ℕ → List ℕ → ℕ → ℕ
shift_at n k κ ω zero = 0
shift_at n k κ ω (suc i) =
    cond (ltb i n)
    (shift_up (get_or k i 0) (get_or κ i 0) (get_or ω i 0) (stiffness_to k κ (suc i) (n - suc i)) (load_to k κ ω (suc i) (n - suc i))
    (shift_at n k κ ω i))
    0

-- the shifts of levels 0 to 10 by elimination
unfoldable pub eliminated : ℕ → List ℕ → List ℕ → List ℕ → List ℕ
eliminated n k κ ω = map (shift_at n k κ ω) (below 11)

-- what `solve` returns: the candidate where each level is in balance under it, else what elimination gives
unfoldable pub solved : ℕ → List ℕ → List ℕ → List ℕ → List ℕ
solved n k κ ω = cond (in_balance n k κ ω (candidate n k κ ω)) (candidate n k κ ω) (eliminated n k κ ω)

-- the ranges of a step
pub record InRange (k κ x : ℕ) : Type 0 where
  pub low : door_spring ≤ k
  pub high : k ≤ closed_spring
  pub held : κ ≤ most_held
  pub above : x ≤ closed_spring * stiffness_scale

-- the most load of a level with what is handed down to it: that of ten levels
abbrev pub most_load_together : ℕ
most_load_together = 10 * most_loaded

-- x and y hold at each level from i up to n what is handed down to it
pub record HandedDown (i n : ℕ) (k κ ω x y : List ℕ) : Type 0 where
  pub stiffness : (j : ℕ) → i ≤ j → j ≤ n → get_or x j 0 ≡ stiffness_to k κ j (n - j)
  pub load : (j : ℕ) → i ≤ j → j ≤ n → get_or y j 0 ≡ load_to k κ ω j (n - j)
