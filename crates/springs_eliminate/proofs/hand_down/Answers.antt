-- `springs_eliminate::hand_down` meets its contract: at each turn the levels from i up have what is handed down to them (Loops).
use Prim.Native.Nat.{suc, ◌+◌, ◌-◌}
use mathlib.Core.Path.{◌≡◌}
use native.Mathlib.Omega.{arith}
use Rattle.springs_eliminate.proofs.Loops.{down_start, down_ready, down_next}
use Rattle.springs_eliminate.proofs.hand_down.Goals as goal

pub loop-j-init : goal.loop-j-init
loop-j-init c = down_start c.told-x c.told-y c.requires.0 c.requires.1

pub load_down-requires : goal.load_down-requires
load_down-requires c =
    let i = c.loop-j.j in
    let up : (i - 1) + 1 ≡ i = omega arith in
    rw up (down_ready (omega arith) c.args.chain.solvable c.loop-j.invariant)

pub stiffness_down-requires : goal.stiffness_down-requires
stiffness_down-requires c =
    let i = c.loop-j.j in
    let up : (i - 1) + 1 ≡ i = omega arith in
    let next : i ≡ suc (i - 1) = omega arith in
    rw up (down_ready next c.args.chain.solvable c.loop-j.invariant).0

pub loop-j-preserved : goal.loop-j-preserved
loop-j-preserved c =
    let i = c.loop-j.j in
    let up : (i - 1) + 1 ≡ i = omega arith in
    let next : i ≡ suc (i - 1) = omega arith in
    down_next next c.args.chain.solvable c.loop-j.invariant (rw up at c.stiffness_down.ensures) (rw up at c.load_down.ensures)
