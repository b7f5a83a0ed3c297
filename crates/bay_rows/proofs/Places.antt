-- Where the rows of a bay lie: one behind another.
use Prim.Native.Nat.{ℕ, zero, suc, ◌+◌, ◌-◌, ◌<◌, ◌≤◌}
use mathlib.Core.List.{List}
use mathlib.Core.Path.{◌≡◌, refl, sym, ap, ◌∙◌}
use native.Mathlib.Numerals.{add-one}
use native.Mathlib.Omega.{arith}
use lib.ListN.{length}
use Rattle.arith.specs.Bytes.{le2}
use Rattle.bay_rows.specs.Bay.{row_place, row_at, row_of}

module _ (b : List ℕ) where
  pub place_first : row_place b 0 ≡ 1
  unfolding row_place
  place_first = refl

  pub place_next : (k : ℕ) → row_place b (k + 1) ≡ row_place b k + 2 + le2 b (row_place b k)
  unfolding row_place
  place_next k = rw (add-one k)

  pub next_is : (k : ℕ) {at next : ℕ} → at ≡ row_place b k → next ≡ at + 2 + le2 b at → next ≡ row_place b (k + 1)
  next_is k e f = f ∙ ap (λ p. p + 2 + le2 b p) e ∙ sym (place_next k)

  -- the place behind a row is not behind that of a later one
  behind : (k more : ℕ) → row_place b (k + 1) ≤ row_place b (k + 1 + more)
  behind k zero = let e : k + 1 + 0 ≡ k + 1 = omega arith in rw e (omega arith)
  behind k (suc more) =
      let e : k + 1 + suc more ≡ k + 1 + more + 1 = omega arith in
      rw e (omega (arith, behind k more, place_next (k + 1 + more)))

  pub row_ends : (k n : ℕ) → k < n → row_place b k + 2 + le2 b (row_place b k) ≤ row_place b n
  row_ends k n h = go (row_place b (k + 1)) (place_next k) (later (n - (k + 1)) (omega arith))
    where
      later : (more : ℕ) → n ≡ k + 1 + more → row_place b (k + 1) ≤ row_place b n
      later more e = rw e (behind k more)

      go : (p : ℕ) → p ≡ row_place b k + 2 + le2 b (row_place b k) → p ≤ row_place b n → row_place b k + 2 + le2 b (row_place b k) ≤ row_place b n
      go p e q = omega (arith, e, q)

  -- row k, whose length stands at `at`
  module _ (k : ℕ) {at : ℕ} (e : at ≡ row_place b k) where
    pub row_there : (n : ℕ) → k < n → row_place b n ≤ length b → at + 2 + le2 b at ≤ length b
    row_there n h room = rw e (omega (arith, row_ends k n h, room))

    pub row_is : {row : List ℕ} → row ≡ row_at b at → row ≡ row_of b k
    unfolding row_of
    row_is f = f ∙ ap (row_at b) e
