-- The most that a taken stack can report, by either rule.
use Prim.Native.Nat.{ℕ, zero, suc, ◌+◌, ◌*◌, ◌-◌, ◌<◌, ◌≤◌}
use mathlib.Core.Bool.{Bool, true, false, cond}
use mathlib.Core.List.{List}
use mathlib.Core.Path.{◌≡◌, refl}
use native.Mathlib.Decide.{ℕ_discrete}
use native.Mathlib.Nat.{mul-le-mul}
use native.Mathlib.Omega.{arith}
use lib.Dec.{eqb}
use Rattle.arith.specs.Lists.{from}
use Rattle.sheet.specs.declared.Sheet.{Sheet}
use Rattle.sheet.specs.Fits.{Fits}
use Rattle.sheet.proofs.Limits.{tier_filled}
use Rattle.statics.specs.Inner.Computed.{share_twentieths}
use Rattle.side_walls.specs.Theorems.{Most}
use Rattle.side_walls.specs.Inner.Units.{total, push_units, racking_units, shift_units, Pitched}
use Rattle.side_walls.proofs.Exact.{racking_reported, shift_reported}

-- mass × A_L of the heaviest box at the greatest acceleration
abbrev push : ℕ
push = 30480 * 1500

share_most : (n : ℕ) → share_twentieths n ≤ 10
share_most n = go (eqb n 2)
  where
    go : (b : Bool) → cond b 10 9 ≤ 10
    go true = omega arith
    go false = omega arith

-- the most that the first i of ten tiers can push together
unfoldable most : ℕ → ℕ
most zero = 0
most (suc i) = most i + 981 * (10 * push + 20 * ((9 - i) * push))

most_grows : (j i : ℕ) → i ≤ j → most i ≤ most j
unfolding most
most_grows zero i h = let e : i ≡ 0 = omega arith in rw e (omega arith)
most_grows (suc j) i h =
    elim (ℕ_discrete i (suc j)) [
      | yes q ↦ rw q (omega arith)
      | no q ↦ omega (arith, most_grows j i (omega arith))
    ]

most_of_ten : most 10 ≡ 44851320000000
unfolding most
most_of_ten = refl

module _ (t : Sheet) (p : List ℕ) (f : Fits t) (h : Pitched t.ntiers p) where
  push_most : (i : ℕ) → i < t.ntiers → push_units t p i ≤ push
  push_most i q = mul-le-mul (tier_filled _ (f.tiers i q)).limits.mass (h.small i q)

  total_most : (i left : ℕ) → i + left ≤ t.ntiers → total (push_units t p) (from i left) ≤ left * push
  unfolding total from
  total_most i zero q = omega arith
  total_most i (suc left) q = omega (arith, push_most i (omega arith), total_most (suc i) left (omega arith))

  racking_most : (i : ℕ) → i < t.ntiers → racking_units t p i ≤ 981 * (10 * push + 20 * ((9 - i) * push))
  unfolding racking_units
  racking_most i q =
      let few : t.ntiers - suc i ≤ 9 - i = omega (arith, f.few) in
      omega
      (arith, mul-le-mul (share_most t.head.rule) (push_most i q), total_most (suc i) (t.ntiers - suc i) (omega arith))

  shift_most : (i : ℕ) → i ≤ t.ntiers → shift_units t p i ≤ most i
  unfolding shift_units most
  shift_most zero q = omega arith
  shift_most (suc i) q = omega (arith, shift_most i (omega arith), racking_most i q)

pub all_most : Most
all_most t p f h i q = (
  rw (racking_reported t p i) (omega (arith, racking_most t p f h i q)),
  rw (shift_reported t p i)
      (omega (arith, shift_most t p f h (suc i) q, most_grows 10 (suc i) (omega (arith, f.few)), most_of_ten)),
)
