-- `springs_guess_both::slope_both` meets its contract: at each turn the levels over i have their floats, at both ends (Loops).
use Prim.Native.Nat.{suc, ◌+◌, ◌*◌, ◌-◌, ◌<◌}
use mathlib.Core.Path.{◌≡◌, ◌∙◌}
use native.Mathlib.Omega.{arith}
use lib.ListN.{length}
use Rattle.springs_guess.proofs.Loops.{down_start, down_next}
use Rattle.springs_guess_both.proofs.Fours.{stored_four}
use Rattle.springs_guess_both.proofs.slope_both.Goals as goal

pub loop-j-init : goal.loop-j-init
loop-j-init c = (c.told-slopes, down_start, down_start)

pub loop-j-preserved : goal.loop-j-preserved
loop-j-preserved c =
    let next : c.loop-j.j ≡ suc (c.loop-j.j - 1) = omega arith in
    let v = c.loop-j.invariant in
    let x = c.step-door_over in
    let y = c.step-closed_over in
    let inside : 4 * (c.loop-j.j - 1) + 3 < length c.loop-j.slopes = omega (arith, v.0, c.args.door.solvable.few) in
    let s = stored_four _ (c.loop-j.j - 1) x.result.a y.result.a x.result.w y.result.w inside in
    (s.0 ∙ v.0, down_next next v.1 x.ensures s.1 s.3, down_next next v.2 y.ensures s.2 s.4)
