-- What the solver promises: how far its shifts, in whole numbers, may lie from the exact ones, for every exact chain near its inputs.
use Rattle.std.specs.Prelude.{List, ◌≡◌, ℕ, suc, ◌+◌, ◌*◌, ◌<◌, ◌≤◌, ◌^◌, length, get_or}
use Rattle.arith.specs.Fractions.{Frac, nat, ◌-q◌, ◌*q◌, ◌/q◌, absq, ◌≈◌, ◌⊑◌, sumq}
use Rattle.springs.specs.Equations.{door_spring, closed_spring, Tier, Lash, tier_at, shift, stiffness_at, load_at, racking, Solves, Stiff}

-- the scales: stiffnesses in 2^-22 N/mm, loads in 2^-28 N, shifts in 2^-28 mm
abbrev pub stiffness_scale : ℕ
stiffness_scale = 2 ^ 22

abbrev pub load_scale : ℕ
load_scale = 2 ^ 28

abbrev pub shift_scale : ℕ
shift_scale = 2 ^ 28

-- x is y scaled, rounded down, at most `slack` units below
pub record Rounded (scale slack x : ℕ) (y : Frac) : Type 0 where
  pub low : nat x ⊑ nat scale *q y
  pub high : nat scale *q y ⊑ nat (x + slack)

-- an exact chain that the solver's inputs stand for: n tiers of springs k; of each level over them the lashes' stiffness κ and the load ω,
-- each a sum of at most four numbers rounded down
pub record Near (n : ℕ) (k κ ω : List ℕ) (ts : List Tier) (ls : List Lash) : Type 0 where
  pub tiers : length ts ≡ n
  pub stiff : Stiff ts ls
  pub spring : (i : ℕ) → i < n → (tier_at ts i).K ≈ nat (get_or k i 0)
  pub held : (i : ℕ) → i < n → Rounded stiffness_scale 4 (get_or κ i 0) (stiffness_at ls (suc i))
  pub loaded : (i : ℕ) → i < n → Rounded load_scale 4 (get_or ω i 0) (load_at ts i)

-- the shift found of a level, in mm
abbrev pub found : List ℕ → ℕ → Frac
found d i = nat (get_or d i 0) /q nat shift_scale

-- the most that document 01's limits allow at a level, rounded up: lashes of 620,000 N/mm (four of 153,960) and a load of 2^18 N (243,323);
-- and the farthest shift then, 2^12 mm (3,262)
abbrev pub most_held : ℕ
most_held = 620000 * stiffness_scale

abbrev pub most_loaded : ℕ
most_loaded = 2 ^ 18 * load_scale

abbrev pub farthest : ℕ
farthest = 2 ^ 12 * shift_scale

-- when the solver may be called
pub record Solvable (n : ℕ) (k κ ω : List ℕ) : Type 0 where
  pub few : n ≤ 10
  pub springs : (i : ℕ) → i < n → (door_spring ≤ get_or k i 0) × (get_or k i 0 ≤ closed_spring)
  pub held : (i : ℕ) → i < n → get_or κ i 0 ≤ most_held
  pub loaded : (i : ℕ) → i < n → get_or ω i 0 ≤ most_loaded

-- the constants of the promise, in N: the sum of stiffness × shift error over the lashes, and the error of a tier's racking. Both are 0.05
abbrev pub error_hundredths : ℕ
error_hundredths = 5

abbrev pub lash_error : Frac
lash_error = nat error_hundredths /q nat 100

abbrev pub racking_error : Frac
racking_error = nat error_hundredths /q nat 100

pub record Promised (n : ℕ) (k κ ω d : List ℕ) : Type 0 where
  pub deck : get_or d 0 0 ≡ 0
  pub far : (i : ℕ) → get_or d i 0 ≤ farthest
  pub lashes :
      (ts : List Tier) (ls : List Lash) (Ds : List Frac) →
      Near n k κ ω ts ls →
      Solves ts ls Ds →
      sumq (λ l. l.stiffness *q absq (found d l.level -q shift Ds l.level)) ls ⊑ lash_error
  pub rackings :
      (ts : List Tier) (ls : List Lash) (Ds : List Frac) →
      Near n k κ ω ts ls →
      Solves ts ls Ds →
      (i : ℕ) →
      i < n →
      absq ((tier_at ts i).K *q (found d (suc i) -q found d i) -q racking ts Ds i) ⊑ racking_error
