-- Contracts of inner functions; nothing here need be believed. A buffer whose bytes have the marks of their places.
use Rattle.std.specs.Prelude.{Bool, true, ◌&&◌, List, [], ◌∷◌, ℕ, suc, ◌+◌, ◌%◌, eqb}

-- 200 to 250, by turns
abbrev pub mark_of : ℕ → ℕ
mark_of i = 200 + i % 51

-- the bytes xs, the first of them at i, have the marks of their places
unfoldable pub all_marked : ℕ → List ℕ → Bool
all_marked i [] = true
all_marked i (x ∷ xs) = eqb x (mark_of i) && all_marked (suc i) xs
