-- `springs_eliminate::climb` meets its contract: at each turn levels 0 to i have their shifts (Loops).
use native.Mathlib.Omega.{arith}
use native.Mathlib.Numerals.{add-one}
use Rattle.springs_eliminate.proofs.Loops.{up_start, up_ready, up_next, up_done}
use Rattle.springs_eliminate.proofs.climb.Goals as goal

pub loop-i-init : goal.loop-i-init
loop-i-init c = up_start c.told-d c.requires.zeros.0 c.requires.zeros.1

pub shift_up-requires : goal.shift_up-requires
shift_up-requires c =
    up_ready (add-one c.loop-i.i) (omega arith) c.args.chain.solvable c.requires.handed_down c.loop-i.invariant

pub loop-i-preserved : goal.loop-i-preserved
loop-i-preserved c =
    up_next (add-one c.loop-i.i) (omega arith) c.args.chain.solvable c.requires.handed_down c.loop-i.invariant c.shift_up.ensures

pub returns : goal.returns
returns c = up_done (omega (arith, c.loop-i.invariant.within)) c.loop-i.invariant
