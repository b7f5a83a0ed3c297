-- `figures_levels::level_figures`: one turn goes from a level to the level under it, with the sums of what stands above (Descent).
use Rattle.figures_levels.proofs.Descent.{FiguredFrom}
use Rattle.figures_levels.proofs.level_figures.Given as goal

abbrev pub invariant-loop-i : goal.invariant-loop-i
invariant-loop-i l =
    let parts = l.above.parts in
    FiguredFrom l.n l.k l.heights l.d l.weights l.lee l.windward l.racking l.levels l.above.moment parts.lee parts.windward l.i
