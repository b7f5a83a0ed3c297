-- `figures_lashes::lash_stiffnesses`: one turn finds length and stiffness of a lash and adds the stiffness at its level (LashLoops).
use lib.ListN.{take}
use Rattle.figures_lashes.proofs.LashLoops.{MeasuredTo}
use Rattle.figures_lashes.proofs.lash_stiffnesses.Given as goal

abbrev pub invariant-loop-j : goal.invariant-loop-j
invariant-loop-j l = MeasuredTo (take l.m l.lashes) l.measures.lengths l.measures.stiffnesses l.measures.levels l.j
