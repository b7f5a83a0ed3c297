-- `limits::lower_of`, by the test of the two limits.
use mathlib.Core.Path.{refl}
use Prim.Native.Nat.{◌<◌, ◌≤◌}
use native.Mathlib.Omega.{arith}
use borrow.Author.Tests.{lt-ltb, le-ltb}
use Rattle.answer.specs.Limits.{corner_tension_limit}
use Rattle.limits.proofs.lower_of.Goals as goal

pub returns-then-lock-lt-CORNER_TENSION : goal.returns-then-lock-lt-CORNER_TENSION
returns-then-lock-lt-CORNER_TENSION c =
    let lower : c.args.lock < corner_tension_limit = omega (arith, c.if-lock-lt-CORNER_TENSION.true) in
    rw (lt-ltb _ corner_tension_limit lower) refl

pub returns : goal.returns
returns c =
    let not_lower : corner_tension_limit ≤ c.args.lock = omega (arith, c.if-lock-lt-CORNER_TENSION.false) in
    rw (le-ltb _ corner_tension_limit not_lower) refl
