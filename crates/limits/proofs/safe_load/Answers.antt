-- `limits::safe_load`, by the test of the material. One division, by both factors and by 1,000, is all.
use mathlib.Core.Bool.{Bool, true, false, cond}
use mathlib.Core.Path.{◌≡◌}
use Prim.Native.Nat.{ℕ, ◌*◌, ◌/◌, ◌≤◌}
use native.Mathlib.Nat.{mul-le-mul}
use native.Mathlib.Omega.{arith}
use lib.Dec.{eqb}
use Rattle.answer.specs.Limits.{safe_load}
use Rattle.limits.proofs.safe_load.Goals as goal

by_factor : (strong : Bool) (b : ℕ) → b * cond strong 200 167 / 334000 * 1000 ≡ b * 100 / cond strong 167 200 / 1000 * 1000
by_factor true b = omega arith
by_factor false b = omega arith

product : (c : goal.After-other_factor) → c.args.breaking * c.other_factor.result ≤ 4294967295 * 200
product c =
    let h : c.args.breaking ≤ 4294967295 = omega arith in
    mul-le-mul h c.other_factor.ensures.1

pub overflow_mul-result : goal.overflow_mul-result
overflow_mul-result c = omega (arith, product c)

pub overflow_mul-result-2 : goal.overflow_mul-result-2
overflow_mul-result-2 c = omega (arith, product c)

pub overflow_cast-result-2 : goal.overflow_cast-result-2
overflow_cast-result-2 c = omega (arith, product c)

pub returns : goal.returns
unfolding safe_load
returns c =
    rw c.other_factor.ensures.0 (by_factor (eqb c.args.material 1) c.args.breaking)
