-- `springs_balance::balanced` is its definition: at each turn the levels over i are in balance (Loops).
use Prim.Native.Nat.{suc, ◌+◌, ◌-◌}
use mathlib.Core.Bool.{not}
use mathlib.Core.Path.{◌≡◌, ap}
use native.Mathlib.Omega.{arith}
use lib.Dec.{lit<}
use Rattle.springs_balance.proofs.Loops.{test, failed, sofar_next, sofar_end}
use mir.Syntax.{w64}
use mir.Val.{to_z}
use Rattle.arith.proofs.SignedWords.{held}
use Rattle.springs_balance.proofs.balanced.Goals.{After-in_balance}
use Rattle.springs_balance.proofs.balanced.Goals as goal

-- what the test says of the force
result :
    (c : After-in_balance) →
    let g = c.args.chain in
    c.in_balance.result ≡ test g.k.now g.kappa.now g.omega.now c.args.d.now (to_z w64 c.loop-j.over-bits) c.loop-j.j
    (c.loop-j.j - 1)
result c =
    let i = c.loop-j.j in
    let up : (i - 1) + 1 ≡ i = omega arith in
    let e = c.force_of-under.ensures in
    rw (held e.1 (lit< tt), e.0, up) at c.in_balance.ensures

pub returns-then-not-in_balance : goal.returns-then-not-in_balance
returns-then-not-in_balance c =
    let i = c.loop-j.j in
    let next : i ≡ suc (i - 1) = omega arith in
    failed next c.args.chain.solvable c.requires.0 c.loop-j.invariant
    (result (goal.at.returns-then-not-in_balance c).After-in_balance) (ap not c.if-not-in_balance.true)

pub loop-j-preserved : goal.loop-j-preserved
loop-j-preserved c =
    let i = c.loop-j.j in
    let next : i ≡ suc (i - 1) = omega arith in
    let up : (i - 1) + 1 ≡ i = omega arith in
    let e = c.force_of-under.ensures in
    rw (held e.1 (lit< tt), e.0, up)
    (sofar_next next c.args.chain.solvable c.requires.0 c.loop-j.invariant
    (result (goal.at.loop-j-preserved c).After-in_balance) (ap not c.if-not-in_balance.false))

pub returns : goal.returns
returns c = sofar_end (omega arith) c.loop-j.invariant
