-- Masses tested and summed: the definitions' words against std's.
use Prim.Native.Nat.{ℕ}
use mathlib.Core.Bool.{◌&&◌}
use mathlib.Core.List.{List}
use mathlib.Core.Path.{◌≡◌, refl}
use Rattle.std.specs.List.{list_all, sum as std_sum}
use Rattle.std.proofs.lemmas.List.Recursion.{same_from_clauses, is_sum_by}
use Rattle.sheet.specs.Layout.{within}
use Rattle.twenties.specs.Judgements.{sum, all_fit}

pub fit_all : (l : List ℕ) → list_all (within 1 30480) l ≡ all_fit l
unfolding all_fit
fit_all l = same_from_clauses (list_all (within 1 30480)) all_fit (λ m b. within 1 30480 m && b) refl (λ _ _. refl) (λ _ _. refl) l

pub sum_same : (l : List ℕ) → sum l ≡ std_sum l
unfolding sum
sum_same = is_sum_by sum (λ m. m) refl (λ _ _. refl)
