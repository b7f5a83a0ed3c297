-- Document 02, P13: the choices of m lashes, in their order. Lashes are counted from 0.
use Rattle.std.specs.Prelude.{ℕ, zero, suc, ◌+◌, ◌*◌, ◌/◌, ◌%◌, ◌<◌, Bool, true, false, cond, ◌≡◌, eqb}
use mathlib.Core.List.{List, [], ◌∷◌, ◌++◌, map, flat_map}
use Rattle.arith.specs.Lists.{below}

-- a choice is a number whose bit k (from 0, lowest) is set where lash k is used: bit 0 where it is odd, bit k + 1 where bit k of its
-- half is
unfoldable pub uses : ℕ → ℕ → Bool
uses c zero = eqb (c % 2) 1
uses c (suc k) = uses (c / 2) k

-- those of the lashes that a choice uses, in their order
unfoldable pub chosen : {A : Type 0} → ℕ → List A → List A
chosen c [] = []
chosen c (l ∷ ls) = cond (uses c 0) (l ∷ chosen (c / 2) ls) (chosen (c / 2) ls)

-- how many of m lashes a choice uses
unfoldable pub used : ℕ → ℕ → ℕ
used zero c = 0
used (suc m) c = cond (uses c 0) (suc (used m (c / 2))) (used m (c / 2))

-- the choices of m lashes that use k of them: first those that use the first lash, then those that do not, each by the choices of the
-- lashes behind it
unfoldable pub sized : ℕ → ℕ → List ℕ
sized m zero = 0 ∷ []
sized zero (suc k) = []
sized (suc m) (suc k) = map (λ c. 1 + 2 * c) (sized m k) ++ map (λ c. 2 * c) (sized m (suc k))

-- all choices of m lashes: fewer lashes come first; the empty choice counts
unfoldable pub choices : ℕ → List ℕ
choices m = flat_map (sized m) (below (suc m))

-- at the first lash where two choices differ, a uses it
pub record UsesFirst (m a b : ℕ) : Type 0 where
  pub lash : ℕ
  pub listed : lash < m
  pub alike : (k : ℕ) → k < lash → uses a k ≡ uses b k
  pub used_by : uses a lash ≡ true
  pub not_by : uses b lash ≡ false

-- the order: fewer lashes come first; among equals, at the first lash where two choices differ, the one that uses it comes first
pub data Before (m a b : ℕ) : Type 0 where
  fewer : used m a < used m b → Before m a b
  as_many : used m a ≡ used m b → UsesFirst m a b → Before m a b

-- those of a list that pass a test, in its order
unfoldable pub those : {A : Type 0} → (A → Bool) → List A → List A
those test [] = []
those test (x ∷ xs) = cond (test x) (x ∷ those test xs) (those test xs)
