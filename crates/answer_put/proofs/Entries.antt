-- Entries one after another: one more is put behind those before it.
use mathlib.Core.Path.{◌≡◌, ap}
use mathlib.Core.List.{List, ◌++◌, flat_map, append-nil, append_assoc}
use Prim.Native.Nat.{ℕ, zero, suc, ◌+◌}
use native.Mathlib.Nat.{add-zero}
use native.Mathlib.Numerals.{add-one}
use native.Mathlib.Omega.{arith}
use Rattle.arith.specs.Lists.{from, below}

module _ (entry : ℕ → List ℕ) where
  last : (i n : ℕ) → flat_map entry (from i (suc n)) ≡ flat_map entry (from i n) ++ entry (i + n)
  unfolding flat_map from
  last i zero = rw (add-zero i) (append-nil (entry i))
  last i (suc n) =
      let e : i + suc n ≡ suc i + n = omega arith in
      rw (e, append_assoc) (ap (λ (l : List ℕ). entry i ++ l) (last (suc i) n))

  pub one_more : (i : ℕ) → flat_map entry (below (i + 1)) ≡ flat_map entry (below i) ++ entry i
  one_more i =
      let e : 0 + i ≡ i = omega arith in
      rw (add-one i) (rw e at (last 0 i))
