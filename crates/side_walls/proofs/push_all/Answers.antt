-- `side_walls::push_all`: from the top down, what is above is carried along (Loops).
use native.Mathlib.Omega.{arith}
use Rattle.sheet.specs.Fits.{tier_at}
use Rattle.sheet.proofs.Limits.{tier_filled}
use Prim.Native.Nat.{ℕ, ◌*◌, ◌-◌, ◌<◌}
use mathlib.Core.Path.{ap, ◌∙◌}
use Rattle.side_walls.proofs.Loops.{pushed_none, pushed_more}
use Rattle.side_walls.proofs.push_all.Goals as goal

pub loop-i-init : goal.loop-i-init
loop-i-init c = rw c.requires.4 pushed_none

pub push_of-own-requires : goal.push_of-own-requires
push_of-own-requires c =
    let inside : c.loop-i.i - 1 < c.args.t.ntiers = omega arith in
    ((tier_filled _ (c.requires.0.tiers _ inside)).limits.mass, omega (arith, c.read2.ensures.0, c.requires.1.small _ inside))

pub loop-i-preserved : goal.loop-i-preserved
loop-i-preserved c =
    let own = c.push_of-own.ensures in
    let mass = (tier_at c.args.t.tiers (c.loop-i.i - 1)).mass in
    let r = c.racking_of.ensures in
    pushed_more c.requires.0.few (omega arith) c.loop-i.invariant
    (own.0 ∙ ap (λ (a : ℕ). mass * a) c.read2.ensures.0) own.1 c.requires.2 r.0 r.1
