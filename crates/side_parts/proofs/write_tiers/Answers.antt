-- `side_parts::write_tiers`: behind the count, racking and shift of the tiers passed are stored.
use mathlib.Core.Path.{refl}
use native.Mathlib.Omega.{arith}
use Rattle.arith.specs.Bytes.{bytes4}
use Rattle.answer_write.proofs.Stores.{run, then, entries_none, entries_more, counted_all}
use Rattle.side_parts.proofs.write_tiers.Goals as goal

pub loop-i-init : goal.loop-i-init
loop-i-init c = (omega arith, entries_none _ _ _)

pub write4-requires : goal.write4-requires
write4-requires c =
    (omega arith, c.requires.4 c.loop-i.i c.loop-i-test.true)

pub write4-requires-in-loop-i : goal.write4-requires-in-loop-i
write4-requires-in-loop-i c =
    (omega arith, c.requires.5 c.loop-i.i c.loop-i-test.true)

pub loop-i-preserved : goal.loop-i-preserved
loop-i-preserved c =
    let l = c.loop-i in (
      omega arith,
      entries_more _ l.i l.invariant.1
          (then (run {bytes = bytes4 _} c.write4.ensures refl) (run {bytes = bytes4 _} c.write4-in-loop-i.ensures (omega arith))),
    )

pub returns : goal.returns
returns c =
    let l = c.loop-i in (
      counted_all _ l.i c.args.n c.write1.ensures l.invariant.1 (omega arith) (omega arith),
      omega arith,
    )
