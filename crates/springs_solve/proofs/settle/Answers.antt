-- `springs_solve::settle` keeps the candidate where the test passes, else has it replaced: `solved` either way (Laws).
use mathlib.Core.Bool.{not}
use mathlib.Core.Path.{ap}
use native.Mathlib.Omega.{arith}
use Rattle.springs_solve.proofs.Laws.{testable, replaceable, passed, replaced}
use Rattle.springs_solve.proofs.settle.Goals as goal

pub balanced-requires : goal.balanced-requires
balanced-requires c =
    let g = c.args.chain in
    let t = testable g.n g.k.now g.kappa.now g.omega.now c.args.d.now g.solvable c.requires in
    (t.0, omega (arith, t.1))

pub eliminate-requires : goal.eliminate-requires
eliminate-requires c =
    let g = c.args.chain in
    replaceable g.n g.k.now g.kappa.now g.omega.now c.args.d.now g.solvable c.requires

pub returns-then-not-balanced : goal.returns-then-not-balanced
returns-then-not-balanced c =
    let g = c.args.chain in
    replaced g.n g.k.now g.kappa.now g.omega.now c.args.d.now g.solvable c.requires
    c.balanced.result
    c.balanced.ensures
    (ap not c.if-not-balanced.true)
    _
    c.eliminate.ensures

pub returns-else-not-balanced : goal.returns-else-not-balanced
returns-else-not-balanced c =
    let g = c.args.chain in
    passed g.n g.k.now g.kappa.now g.omega.now c.args.d.now g.solvable c.requires
    c.balanced.result
    c.balanced.ensures
    (ap not c.if-not-balanced.false)
