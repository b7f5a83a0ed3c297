-- `answer_write::write_figures`: behind the count, the entries passed are stored.
use mathlib.Core.Path.{refl}
use native.Mathlib.Omega.{arith}
use Rattle.answer_write.proofs.Stores.{run, entries_none, entries_more}
use Rattle.answer_write.proofs.write_figures.Goals as goal

pub loop-i-init : goal.loop-i-init
loop-i-init c = (omega arith, entries_none _ _ _)

pub loop-i-preserved : goal.loop-i-preserved
loop-i-preserved c =
    (omega arith, entries_more _ c.loop-i.i c.loop-i.invariant.1 (run c.write_figure.ensures refl))
