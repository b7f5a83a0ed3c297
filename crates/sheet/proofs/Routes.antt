-- Each route factor lies from 73 to 100 percent: one test, computed over the table.
use Prim.Native.Nat.{ℕ, zero, suc, ◌<◌, ◌≤◌}
use mathlib.Core.Bool.{Bool, true, ◌&&◌}
use mathlib.Core.List.{List, [], ◌∷◌}
use mathlib.Core.Path.{◌≡◌, refl}
use native.Mathlib.Omega.{arith}
use borrow.Author.Tests.{leb-true}
use lib.Dec.{leb}
use lib.ListN.{length, get_or}
use Rattle.sheet.specs.Layout.{within}
use Rattle.sheet.specs.Routes.{route_percents, route_percent}
use Rattle.sheet.proofs.Bools.{and_true}

abbrev all : (ℕ → Bool) → List ℕ → Bool
all f [] = true
all f (x ∷ xs) = f x && all f xs

at : (f : ℕ → Bool) (xs : List ℕ) → all f xs ≡ true → (k : ℕ) → k < length xs → f (get_or xs k 0) ≡ true
at f [] e k h = absurd (omega (arith, h))
at f (x ∷ xs) e zero h = (and_true (f x) (all f xs) e).0
at f (x ∷ xs) e (suc k) h = at f xs (and_true (f x) (all f xs) e).1 k (omega (arith, h))

pub percent_range : (route : ℕ) → route < 13 → (73 ≤ route_percent route) × (route_percent route ≤ 100)
percent_range route h =
    let p = route_percent route in
    let e = and_true (leb 73 p) (leb p 100) (at (within 73 100) route_percents refl route h) in
    (leb-true 73 p e.0, leb-true p 100 e.1)
