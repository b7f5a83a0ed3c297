-- Shifts found in floats, by name: candidates of which nothing is claimed, since they are tested in whole numbers (Balance). With S = 1,
-- P = Y = 0 over the uppermost level, level by level from there down: P = κ S + K P, Y = ω S + K Y, S = K S + P; then the shift of a level
-- is Y / S and K S / S of the shift under it. Nothing cancels, and the divisions wait for nothing but S.
use Rattle.std.specs.Prelude.{cond, List, map, ◌≡◌, ℕ, zero, suc, ◌+◌, ◌*◌, ◌-◌, ◌%◌, ◌<◌, ◌≤◌, ltb, Float, get_or}
use Rattle.std.specs.Float.{nan, binary64}
use Rattle.std.specs.Float.Ieee.{add, mul, div, of_bits}
use Rattle.arith.specs.Lists.{below}
use Rattle.floats.specs.Inner.Floats.{float_of, near_of}
use Rattle.springs.specs.declared.UpperChain.{UpperChain}

-- 0, 1, and 2^-22, the unit of the lashes' stiffness
abbrev pub none : Float
none = of_bits binary64 0

abbrev pub one : Float
one = of_bits binary64 4607182418800017408

abbrev pub stiffness_unit : Float
stiffness_unit = of_bits binary64 4508103226997866496

-- over the uppermost level
abbrev pub top : UpperChain
top = record { s = one; p = none; y = none; a = none; w = none }

-- a level of lashes κ and load ω, and the spring k under it; over it stands the chain `over`
abbrev pub held_down : UpperChain → ℕ → Float
held_down over κ = add binary64 (mul binary64 (mul binary64 (float_of κ) stiffness_unit) over.s) over.p

abbrev pub loaded_down : UpperChain → ℕ → Float
loaded_down over ω = add binary64 (mul binary64 (float_of ω) over.s) over.y

abbrev pub sprung : UpperChain → ℕ → Float
sprung over k = mul binary64 (float_of k) over.s

abbrev pub inverse : UpperChain → ℕ → ℕ → Float
inverse over k κ = div binary64 one (add binary64 (sprung over k) (held_down over κ))

unfoldable pub step_down : UpperChain → ℕ → ℕ → ℕ → UpperChain
step_down over k κ ω =
    record {
      s = add binary64 (sprung over k) (held_down over κ);
      p = mul binary64 (float_of k) (held_down over κ);
      y = mul binary64 (float_of k) (loaded_down over ω);
      a = mul binary64 (loaded_down over ω) (inverse over k κ);
      w = mul binary64 (sprung over k) (inverse over k κ);
    }

-- the m tiers over level i with the levels over them
unfoldable pub chain_to : List ℕ → List ℕ → List ℕ → ℕ → ℕ → UpperChain
chain_to k κ ω i zero = top
chain_to k κ ω i (suc m) = step_down (chain_to k κ ω (suc i) m) (get_or k i 0) (get_or κ i 0) (get_or ω i 0)

-- the shift of level i as a float, of n tiers
unfoldable pub float_at : ℕ → List ℕ → List ℕ → List ℕ → ℕ → Float
float_at n k κ ω zero = none
float_at n k κ ω (suc i) =
    add binary64 (chain_to k κ ω i (n - i)).a (mul binary64 (chain_to k κ ω i (n - i)).w (float_at n k κ ω i))

-- the whole number nearest to it, below 2^40: 0 at the deck and behind n
unfoldable pub candidate_at : ℕ → List ℕ → List ℕ → List ℕ → ℕ → ℕ
candidate_at n k κ ω zero = 0
candidate_at n k κ ω (suc i) = cond (ltb i n) (near_of (float_at n k κ ω (suc i)) % 1099511627776) 0

unfoldable pub candidate : ℕ → List ℕ → List ℕ → List ℕ → List ℕ
candidate n k κ ω = map (candidate_at n k κ ω) (below 11)

-- a and w give what the shift of each level over i takes, up to n: of the level over tier j its own float, and the share that it has of
-- the shift under it
pub record Sloped (i n : ℕ) (k κ ω : List ℕ) (a w : ℕ → Float) : Type 0 where
  pub own : (j : ℕ) → i ≤ j → j < n → a j ≡ (chain_to k κ ω j (n - j)).a
  pub share : (j : ℕ) → i ≤ j → j < n → w j ≡ (chain_to k κ ω j (n - j)).w

-- the shifts that these give, from the deck up: as floats, and the whole numbers nearest to them
unfoldable pub float_in : (ℕ → Float) → (ℕ → Float) → ℕ → Float
float_in a w zero = none
float_in a w (suc i) = add binary64 (a i) (mul binary64 (w i) (float_in a w i))

unfoldable pub risen_at : ℕ → (ℕ → Float) → (ℕ → Float) → ℕ → ℕ
risen_at n a w zero = 0
risen_at n a w (suc i) = cond (ltb i n) (near_of (float_in a w (suc i)) % 1099511627776) 0

unfoldable pub risen : ℕ → (ℕ → Float) → (ℕ → Float) → List ℕ
risen n a w = map (risen_at n a w) (below 11)

-- where they stand in arrays: that of the level over tier j at its number, or every fourth from p on
abbrev pub by_level : List Float → ℕ → Float
by_level l j = get_or l (suc j) nan

abbrev pub every_fourth : ℕ → List Float → ℕ → Float
every_fourth p l j = get_or l (4 * j + p) nan
