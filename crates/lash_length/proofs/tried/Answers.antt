-- `lash_length::tried`: a trial that is enough is one less than the length before.
use Prim.Native.Nat.{ℕ, ◌*◌, ◌-◌, ◌<◌, ◌≤◌}
use mathlib.Core.Bool.{Bool, true, false, cond}
use mathlib.Core.Path.{◌≡◌, refl}
use native.Mathlib.Nat.{mul-le-mul}
use native.Mathlib.Omega.{arith}
use lib.Dec.{leb}
use mir.Val.{bool_byte}
use Rattle.lash_length.proofs.tried.Goals as goal

one_less : (b : Bool) (x : ℕ) → x - bool_byte b ≡ cond b (x - 1) x
one_less true x = refl
one_less false x = omega arith

at_most : (b : Bool) (x : ℕ) → 0 < x → bool_byte b ≤ x
at_most true x h = omega (arith, h)
at_most false x h = omega arith

-- whether the trial below x is enough
abbrev enough : ℕ → ℕ → Bool
enough s x = leb s ((x - 1) * (x - 1))

pub overflow_mul-result : goal.overflow_mul-result
overflow_mul-result c =
    let l : c.args.at.length - 1 ≤ 1999999999 = omega (arith, c.requires.1) in
    omega (arith, mul-le-mul l l)

pub overflow_sub-result : goal.overflow_sub-result
overflow_sub-result c =
    at_most (enough c.args.g.squares c.args.at.length) c.args.at.length (omega (arith, c.requires.0))

pub returns : goal.returns
returns c =
    let a = c.args in record { length_value = one_less (enough a.g.squares a.at.length) a.at.length; squared_value = refl }
