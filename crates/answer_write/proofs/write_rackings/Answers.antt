-- `answer_write::write_rackings`: behind the count, the entries passed are stored.
use mathlib.Core.Path.{refl}
use native.Mathlib.Omega.{arith}
use lib.ListN.{get_or}
use lib.IntN.{pos}
use mir.Syntax.{w32}
use mir.Val.{SFits}
use mir.ValLaws.{to_z-of_z}
use Rattle.answer_write.proofs.Stores.{run, entries_none, entries_more}
use borrow.Author.Rules.{rules}
use Rattle.answer_write.proofs.write_rackings.Goals as goal

pub loop-i-init : goal.loop-i-init
loop-i-init c = (omega arith, entries_none _ _ _)

pub loop-i-preserved : goal.loop-i-preserved
loop-i-preserved c =
    let xs = c.args.xs.now in
    let g : SFits w32 (get_or xs c.loop-i.i (pos 0)) = search rules in
    let e = rw (to_z-of_z w32 _ g) at c.write_signed.ensures in
    (omega arith, entries_more _ c.loop-i.i c.loop-i.invariant.1 (run e refl))
