-- `springs_steps::load_down` meets its contract: where nothing is held, by Unheld; else its product and its divisor are in range by Ranges.
use mathlib.Core.Path.{sym}
use Prim.Native.Nat.{◌+◌, ◌*◌}
use native.Mathlib.Nat.{mul-le-mul_right}
use native.Mathlib.Omega.{arith}
use Rattle.springs.specs.Inner.Elimination.{load_down}
use Rattle.springs.proofs.Ranges.{scalable, load_fits}
use Rattle.springs_steps.proofs.Unheld.{load_unheld}
use borrow.Author.Rules.{rules}
use Rattle.springs_steps.proofs.load_down.Goals as goal

pub returns-then-stiffness-eq0 : goal.returns-then-stiffness-eq0
returns-then-stiffness-eq0 c = let a = c.args in sym (load_unheld a.k a.kappa a.x (omega arith) c.if-stiffness-eq0.true a.omega a.y)

pub overflow_mul-k : goal.overflow_mul-k
overflow_mul-k c = let a = c.args in omega (arith, mul-le-mul_right (a.omega + a.y) c.requires.0.high)

pub scaled-requires : goal.scaled-requires
scaled-requires c =
    let a = c.args in
    scalable a.k a.kappa a.x c.requires.0 (a.k * (a.omega + a.y))
    (load_fits a.k a.kappa a.x c.requires.0 (a.omega + a.y) c.requires.1)

pub returns : goal.returns
unfolding load_down
returns c = search rules
