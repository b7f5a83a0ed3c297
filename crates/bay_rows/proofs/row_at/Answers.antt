-- `bay_rows::row_at`: the part is the bytes behind the length.
use Prim.Native.Nat.{◌+◌, ◌-◌}
use mathlib.Core.Path.{◌≡◌}
use native.Mathlib.Omega.{arith}
use Rattle.bay_rows.proofs.row_at.Goals as goal

pub returns : goal.returns
returns c =
    let a = c.args in
    let n = c.length_at.result in
    let size : a.at + 2 + n - (a.at + 2) ≡ n = omega arith in
    rw (size, c.length_at.ensures.0)
