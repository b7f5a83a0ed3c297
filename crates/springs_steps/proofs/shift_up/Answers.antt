-- `springs_steps::shift_up` meets its contract: where nothing is held, by Unheld; else its sum and its divisor are in range by Ranges.
use mathlib.Core.Path.{sym}
use Prim.Native.Nat.{◌+◌, ◌*◌}
use native.Mathlib.Nat.{mul-le-mul_right, div-le_self}
use native.Mathlib.Omega.{arith}
use Rattle.springs.specs.Inner.Elimination.{shift_up}
use Rattle.springs.proofs.Ranges.{scalable, shift_fits}
use Rattle.springs_steps.proofs.Unheld.{shift_unheld}
use borrow.Author.Rules.{rules}
use Rattle.springs_steps.proofs.shift_up.Goals as goal

pub overflow_add-result : goal.overflow_add-result
overflow_add-result c = let a = c.args in omega (arith, div-le_self (a.omega + a.y) a.k, c.requires.1, c.requires.2)

pub returns-then-stiffness-eq0 : goal.returns-then-stiffness-eq0
returns-then-stiffness-eq0 c = let a = c.args in sym (shift_unheld a.k a.kappa a.x (omega arith) c.if-stiffness-eq0.true a.omega a.y a.p)

pub overflow_mul-k : goal.overflow_mul-k
overflow_mul-k c = omega (arith, mul-le-mul_right c.args.p c.requires.0.high, c.requires.2)

pub overflow_add-load-2 : goal.overflow_add-load-2
overflow_add-load-2 c = omega (arith, mul-le-mul_right c.args.p c.requires.0.high, c.requires.1, c.requires.2)

pub scaled-requires : goal.scaled-requires
scaled-requires c =
    let a = c.args in
    scalable a.k a.kappa a.x c.requires.0 (a.omega + a.y + a.k * a.p)
    (shift_fits a.k a.kappa a.x c.requires.0 (a.omega + a.y) a.p c.requires.1 c.requires.2)

pub returns : goal.returns
unfolding shift_up
returns c = search rules
