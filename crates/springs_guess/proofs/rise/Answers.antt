-- `springs_guess::rise` meets its contract: at each turn levels 0 to i have their shifts (Loops).
use Prim.Native.Nat.{ℕ}
use mathlib.Core.Path.{ap}
use lib.Ieee.{nan}
use lib.ListN.{get_or}
use native.Mathlib.Omega.{arith}
use native.Mathlib.Numerals.{add-one}
use Rattle.springs_guess.proofs.Loops.{up_start, up_next, up_done}
use Rattle.springs_guess.proofs.rise.Goals as goal

pub loop-i-init : goal.loop-i-init
loop-i-init c = up_start c.requires.1

pub loop-i-preserved : goal.loop-i-preserved
loop-i-preserved c =
    let g = c.args in
    let up = add-one c.loop-i.i in
    up_next up (omega arith) c.requires.0 c.loop-i.invariant
    (ap (λ (z : ℕ). get_or g.a.now z nan) up)
    (ap (λ (z : ℕ). get_or g.w.now z nan) up)
    c.near.ensures.0

pub returns : goal.returns
returns c = up_done (omega (arith, c.loop-i.invariant.within)) c.loop-i.invariant
