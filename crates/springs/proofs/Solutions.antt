-- The definitions compute: what the solver answers to document 01's figures (d) and (e), one box and two held by one rod at the uppermost
-- level, is the candidate.
use mathlib.Core.Path.{◌≡◌, refl}
use mathlib.Core.Bool.{true, false}
use mathlib.Core.List.{List, [], ◌∷◌}
use Prim.Native.Nat.{ℕ}
use lib.Ieee.{of_bits, to_bits, add, sub, mul, div, eq, neg}
use Rattle.arith.specs.Lists.{from}
use Rattle.floats.specs.Inner.Floats.{float_of, near_of}
use Rattle.springs.specs.Inner.Candidate.{step_down, chain_to, float_at, candidate_at, candidate}
use Rattle.springs.specs.Inner.Balance.{pulled, pushed, slack_at, in_balance_to, in_balance}
use Rattle.springs.specs.Inner.Elimination.{solved}

-- rod S, 7,200 N/mm
abbrev rod : ℕ
rod = 30198988800

-- 22,072.5 N: D = 22,072.5 / 10,930 mm
abbrev shift_d : List ℕ
shift_d = 0 ∷ 542089808 ∷ 0 ∷ 0 ∷ 0 ∷ 0 ∷ 0 ∷ 0 ∷ 0 ∷ 0 ∷ 0 ∷ []

pub solved_d : solved 1 (3730 ∷ []) (rod ∷ []) (5925041602560 ∷ []) ≡ shift_d
unfolding solved in_balance_to pulled pushed slack_at candidate candidate_at float_at chain_to step_down from near_of float_of of_bits to_bits add sub mul
    div eq neg
solved_d = refl

-- 24,770.25 N and 2,207.25 N: D of level 2 = 29,184.75 / 18,130 mm
abbrev shifts_e : List ℕ
shifts_e = 0 ∷ 1107372321 ∷ 432113716 ∷ 0 ∷ 0 ∷ 0 ∷ 0 ∷ 0 ∷ 0 ∷ 0 ∷ 0 ∷ []

pub solved_e : solved 2 (3730 ∷ 3730 ∷ []) (0 ∷ rod ∷ []) (6649213353984 ∷ 592504160256 ∷ []) ≡ shifts_e
unfolding solved in_balance_to pulled pushed slack_at candidate candidate_at float_at chain_to step_down from near_of float_of of_bits to_bits add sub mul
    div eq neg
solved_e = refl

-- the test is near: of (d) a shift of 122 units, 0.0000005 mm, more does not pass
pub passes_d : in_balance 1 (3730 ∷ []) (rod ∷ []) (5925041602560 ∷ []) (0 ∷ 542089808 ∷ []) ≡ true
unfolding in_balance_to pulled pushed slack_at
passes_d = refl

pub fails_d : in_balance 1 (3730 ∷ []) (rod ∷ []) (5925041602560 ∷ []) (0 ∷ 542089930 ∷ []) ≡ false
unfolding in_balance_to pulled pushed slack_at
fails_d = refl
