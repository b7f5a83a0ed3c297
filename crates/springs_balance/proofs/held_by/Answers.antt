-- `springs_balance::held_by`: the product by parts, and its bound.
use mathlib.Core.Path.{sym, subst}
use Prim.Native.Nat.{ℕ, ◌+◌, ◌*◌, ◌/◌, ◌<◌, ◌≤◌, ◌^◌}
use native.Mathlib.Nat.{mul-le-mul}
use native.Mathlib.Omega.{arith}
use lib.Dec.{lit<}
use Rattle.arith.specs.Inner.Rounding.{scaled_down}
use Rattle.springs.specs.Inner.Promise.{stiffness_scale, most_held, farthest}
use Rattle.springs.proofs.Ranges.{quotient_le}
use Rattle.springs_balance.proofs.held_by.Goals as goal

few : (κ d : ℕ) → κ ≤ most_held → d ≤ farthest → κ * (d / 4194304 + 1) < 2 ^ 64
few κ d a b =
    let q : d / 4194304 + 1 ≤ 262145 = omega (arith, quotient_le d 4194304 262144 (lit< tt) (omega (arith, b))) in
    omega (arith, mul-le-mul a q)

most : (κ d : ℕ) → κ ≤ most_held → d ≤ farthest → scaled_down κ d stiffness_scale ≤ 620000 * farthest
most κ d a b = quotient_le (κ * d) stiffness_scale (620000 * farthest) (lit< tt) (omega (arith, mul-le-mul a b))

pub split_product-requires : goal.split_product-requires
split_product-requires c = (lit< tt, lit< tt, omega (arith, c.requires.0), few c.args.kappa c.args.d c.requires.0 c.requires.1)

pub returns : goal.returns
returns c =
    let e = c.split_product.ensures in
    (e, subst (λ (z : ℕ). z ≤ 620000 * farthest) (sym e) (most c.args.kappa c.args.d c.requires.0 c.requires.1))
