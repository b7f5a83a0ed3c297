-- What stands in the arrays that are lent to be filled. The figures of an end: the rackings; the compressions with the tensions behind
-- them; the tensions of the lashes, then their athwart parts, then their vertical parts. Nothing here need be believed.
use Rattle.std.specs.Prelude.{List, ◌≡◌, ℕ, ℤ, drop, length, pos, replicate, take}
use Rattle.statics.specs.declared.EndArrays.{EndArrays}
use Rattle.statics.specs.declared.EndFigures.{EndFigures}
use Rattle.statics.specs.declared.Figures.{Figures}
use Rattle.statics.specs.declared.StackArrays.{StackArrays}

abbrev pub figures_in : List ℤ → List ℕ → List ℕ → EndFigures
figures_in racking levels forces =
    record {
      racking = racking;
      compression = take 11 levels;
      tension = drop 11 levels;
      pull = take 8 forces;
      athwart = take 8 (drop 8 forces);
      vertical = drop 16 forces;
    }

abbrev pub end_in : EndArrays → EndFigures
end_in a = figures_in a.racking a.levels a.forces

abbrev pub both_in : StackArrays → Figures
both_in a = record { door = end_in a.door; closed = end_in a.closed }

-- nothing is put in yet
abbrev pub Zeros : EndArrays → Type 0
Zeros a = (a.racking ≡ replicate 10 (pos 0)) × (a.levels ≡ replicate 21 0) × (a.forces ≡ replicate 24 0)

-- the lengths of the arrays
pub record Lengths (racking : List ℤ) (levels forces : List ℕ) : Type 0 where
  pub of_racking : length racking ≡ 10
  pub of_levels : length levels ≡ 21
  pub of_forces : length forces ≡ 24

-- half of V above levels 0 to 10 in one array: with A_Vmax, and behind these eleven with A_Vmin
abbrev pub most_in : List ℕ → List ℕ
most_in weights = take 11 weights

abbrev pub least_in : List ℕ → List ℕ
least_in weights = drop 11 weights
