-- The theorems of specs/Theorems hold.
use mathlib.Core.Path.{refl}
use Rattle.forecast_factor.specs.Factor.{enough, first_enough, factor}
use Rattle.forecast_factor.specs.Theorems.{Theorems}
use Rattle.forecast_factor.proofs.Enough.{least, kept, same}
use Rattle.forecast_factor.proofs.Roots.{by_roots, from_roots}

pub theorems : Theorems
unfolding enough first_enough factor
theorems =
    record {
      by_roots = by_roots;
      from_roots = from_roots;
      least = least;
      kept = kept;
      only = λ h b t positive k. same h b t (factor h b) k (kept h b positive);
      example = refl;
      at_600 = refl;
      above_600 = refl;
      at_1000 = refl;
      above_1000 = refl;
      between = refl;
      no_wave = refl;
      narrow_600 = refl;
      narrow = refl;
    }
