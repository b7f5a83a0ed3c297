-- `springs_guess_both::rise_both` meets its contract: at each turn levels 0 to i have their shifts, at both ends (Loops).
use Prim.Native.Nat.{ℕ, ◌+◌, ◌*◌}
use mathlib.Core.Path.{◌≡◌, refl, ap}
use native.Mathlib.Omega.{arith}
use native.Mathlib.Numerals.{add-one}
use lib.Ieee.{nan}
use lib.ListN.{get_or}
use Rattle.springs_guess.proofs.Loops.{up_start, up_next, up_done}
use Rattle.springs_guess_both.proofs.rise_both.Goals as goal

pub loop-i-init : goal.loop-i-init
loop-i-init c = (up_start c.requires.1, up_start c.requires.2)

pub loop-i-preserved : goal.loop-i-preserved
loop-i-preserved c =
    let v = c.loop-i.invariant in
    let i = c.loop-i.i in
    let start : 4 * c.loop-i.i ≡ 4 * c.loop-i.i + 0 = omega arith in (
      up_next (add-one i) (omega arith) c.requires.0 v.0 (ap (λ (z : ℕ). get_or c.args.slopes.now z nan) start) refl c.near.ensures.0,
      up_next (add-one i) (omega arith) c.requires.0 v.1 refl refl c.near-in-loop-i.ensures.0,
    )

pub returns : goal.returns
returns c =
    let v = c.loop-i.invariant in
    let all : c.loop-i.i ≡ c.args.n = omega (arith, v.0.within) in
    record { d_after = up_done all v.0; e_after = up_done all v.1 }
