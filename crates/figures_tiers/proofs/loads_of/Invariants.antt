-- `figures_tiers::loads_of`: from the top down, each level's load, the weights above it, and the heights (LoadLaws).
use mathlib.Core.Path.{◌≡◌}
use lib.ListN.{length, take}
use Rattle.statics.specs.Inner.InArrays.{most_in, least_in}
use Rattle.figures_tiers.proofs.LoadLaws.{LoadedDown, Carried}
use Rattle.figures_tiers.proofs.LoadLaws.{HeightsDown}
use Rattle.figures_tiers.proofs.loads_of.Given as goal

abbrev pub invariant-loop-i : goal.invariant-loop-i
invariant-loop-i l =
    LoadedDown l.rule l.n (take l.n l.tiers) l.measures.loads l.over.transverse l.over.wind l.i
    × Carried (λ t. t.aVmax) l.n (take l.n l.tiers) (most_in l.measures.weights) l.vmax_units l.i
    × Carried (λ t. t.aVmin) l.n (take l.n l.tiers) (least_in l.measures.weights) l.vmin_units l.i
    × HeightsDown l.n (take l.n l.tiers) l.measures.heights l.i
    × (length l.measures.weights ≡ 22)
