-- `figures_lashes::lash_figures`: one turn finds the figures of a lash and adds its vertical part to its post (LashLoops).
use lib.ListN.{take}
use Rattle.figures_lashes.proofs.LashLoops.{FiguredTo}
use Rattle.figures_lashes.proofs.lash_figures.Given as goal

abbrev pub invariant-loop-j : goal.invariant-loop-j
invariant-loop-j l =
    FiguredTo (take l.m l.lashes) l.d l.lee l.windward l.forces l.j
