-- A list written eight numbers a line, read by line and place.
use Prim.Native.Nat.{ℕ, zero, suc, ◌+◌, ◌*◌, ◌/◌, ◌%◌, ◌<◌}
use mathlib.Core.List.{List, [], ◌∷◌}
use mathlib.Core.Path.{◌≡◌, ap, ◌∙◌}
use native.Mathlib.Omega.{arith}
use lib.ListN.{get_or, take, drop}
use lib.Seq.{get_or-take, get_or-drop}

abbrev pub lines : ℕ → List ℕ → List (List ℕ)
lines zero l = []
lines (suc n) l = take 8 l ∷ lines n (drop 8 l)

at_place : (n k j : ℕ) (l : List ℕ) → k < n → j < 8 → get_or (get_or (lines n l) k []) j 0 ≡ get_or l (8 * k + j) 0
at_place zero k j l g h = absurd (omega (arith, g))
at_place (suc n) zero j l g h = get_or-take 8 l j 0 h ∙ ap (λ i. get_or l i 0) (omega arith)
at_place (suc n) (suc k) j l g h =
    let next : 8 + (8 * k + j) ≡ 8 * suc k + j = omega arith in
    at_place n k j (drop 8 l) (omega (arith, g)) h ∙ get_or-drop 8 l (8 * k + j) 0 ∙ ap (λ i. get_or l i 0) next

pub by_lines : (n : ℕ) (l : List ℕ) (i : ℕ) → i < 8 * n → get_or (get_or (lines n l) (i / 8) []) (i % 8) 0 ≡ get_or l i 0
by_lines n l i h =
    let place : 8 * (i / 8) + i % 8 ≡ i = omega arith in
    at_place n (i / 8) (i % 8) l (omega (arith, h)) (omega arith) ∙ ap (λ k. get_or l k 0) place
