-- `springs_guess::slope` meets its contract: at each turn the levels over i have their floats (Loops).
use Prim.Native.Nat.{suc, ◌+◌, ◌-◌, ◌<◌}
use mathlib.Core.Path.{◌≡◌, ◌∙◌}
use native.Mathlib.Omega.{arith}
use lib.ListN.{length-set}
use Rattle.springs_guess.proofs.Loops.{stored, down_start, down_next}
use Rattle.springs_guess.proofs.slope.Goals as goal

pub loop-j-init : goal.loop-j-init
loop-j-init c = (c.told-a, c.told-w, down_start)

pub loop-j-preserved : goal.loop-j-preserved
loop-j-preserved c =
    let v = c.loop-j.invariant in
    let i = c.loop-j.j in
    let next : i ≡ suc (i - 1) = omega arith in
    let up : (i - 1) + 1 ≡ i = omega arith in
    let room : i < 11 = omega (arith, c.args.chain.solvable.few) in
    let r = c.step-over.result in
    rw up (
      length-set c.loop-j.a i r.a ∙ v.0,
      length-set c.loop-j.w i r.w ∙ v.1,
      down_next next v.2 c.step-over.ensures
          (stored c.loop-j.a i (i - 1) r.a next (omega (arith, v.0)))
          (stored c.loop-j.w i (i - 1) r.w next (omega (arith, v.1))),
    )
