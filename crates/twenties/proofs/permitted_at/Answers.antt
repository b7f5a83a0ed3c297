-- `twenties::permitted_at`: no step leaves its width, since no entry is above 422.
use Prim.Native.Nat.{◌≤◌}
use mathlib.Core.Path.{refl}
use native.Mathlib.Omega.{arith}
use Rattle.twenties.proofs.Falling.{most}
use Rattle.twenties.proofs.Rows.{permitted_most}
use Rattle.twenties.proofs.permitted_at.Goals as goal

small : (c : goal.After-entry) → c.entry.result ≤ 422
small c = rw c.entry.ensures (most _ _ _)

pub overflow_cast-result : goal.overflow_cast-result
overflow_cast-result c = omega (arith, small c)

pub overflow_mul-result : goal.overflow_mul-result
overflow_mul-result c = omega (arith, small c)

pub overflow_mul-result-2 : goal.overflow_mul-result-2
overflow_mul-result-2 c =
    let a = c.args in
    let whole = rw (← c.entry.ensures) at (permitted_most a.table a.acceleration a.tiers c.requires.3) in
    record { fits = omega arith }

pub returns : goal.returns
returns c = rw c.entry.ensures refl
