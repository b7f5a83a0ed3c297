-- The choices of at most eight lashes are among those of eight, in the same order: one test, computed.
use Prim.Native.Nat.{ℕ, ◌^◌, ◌≤◌}
use mathlib.Core.List.{List, [], map, flat_map}
use mathlib.Core.Path.{◌≡◌, refl, sym, ap, ◌∙◌}
use native.Mathlib.Nat.{zero-add}
use native.Mathlib.Omega.{arith}
use lib.Dec.{ltb}
use lib.ListN.{get_or}
use Rattle.arith.specs.Lists.{from, below}
use Rattle.arith.proofs.Arrays.{entry}
use Rattle.choices.specs.Choices.{sized, choices, those}
use Rattle.choices.specs.Theorems.{AmongEight, OfFour}

pub of_four : OfFour
unfolding choices flat_map from sized
of_four = refl

abbrev of_eight : ℕ → List ℕ
of_eight m = those (λ c. ltb c (2 ^ m)) (choices 8)

tested : map choices (below 9) ≡ map of_eight (below 9)
unfolding choices flat_map from sized those
tested = refl

-- the test at m
listed : (f : ℕ → List ℕ) (m : ℕ) → m ≤ 8 → get_or (map f (below 9)) m [] ≡ f m
listed f m h = entry f [] 0 9 m (omega (arith, h)) ∙ ap f (zero-add m)

pub among_eight : AmongEight
among_eight m h = sym (listed choices m h) ∙ ap (λ (l : List (List ℕ)). get_or l m []) tested ∙ listed of_eight m h
