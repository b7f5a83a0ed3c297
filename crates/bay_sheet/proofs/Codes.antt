-- A wind code from its two bits.
use Prim.Native.Nat.{◌+◌, ◌*◌, ◌≤◌}
use mathlib.Core.Bool.{Bool, true, false}
use mathlib.Core.Path.{◌≡◌, refl}
use native.Mathlib.Omega.{arith}
use mir.Val.{bool_byte}
use Rattle.sheet.specs.Layout.{wind_code}

pub small : (b : Bool) → bool_byte b ≤ 1
small true = omega arith
small false = omega arith

pub joined : (e t : Bool) → bool_byte e + 2 * bool_byte t ≡ wind_code e t
joined true true = refl
joined true false = refl
joined false true = refl
joined false false = refl
