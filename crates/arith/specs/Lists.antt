-- Lists of whole numbers one behind another, entries in an array of a fixed size, and counted bytes.
use Rattle.std.specs.Prelude.{ℕ, zero, suc, ◌-◌, length, replicate}
use mathlib.Core.List.{List, [], ◌∷◌, ◌++◌, flat_map}

-- i, i + 1, .. of which there are `left`; 0 to n - 1
unfoldable pub from : ℕ → ℕ → List ℕ
from i zero = []
from i (suc left) = i ∷ from (suc i) left

abbrev pub below : ℕ → List ℕ
below n = from 0 n

-- an array of `size` entries: those of l, then blank ones
abbrev pub padded {ℓ} : {A : Type ℓ} → ℕ → A → List A → List A
padded size blank l = l ++ replicate (size - length l) blank

-- a count n, then the bytes of entries 0 to n - 1
abbrev pub counted : ℕ → (ℕ → List ℕ) → List ℕ
counted n entry = n ∷ flat_map entry (below n)
