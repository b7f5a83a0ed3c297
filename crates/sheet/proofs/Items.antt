-- What the tests of an item read, against the rows of the item.
use Prim.Native.Nat.{ℕ, ◌≤◌}
use mathlib.Core.Bool.{false, ◌||◌}
use mathlib.Core.List.{List}
use mathlib.Core.Path.{◌≡◌, refl}
use native.Mathlib.Omega.{arith}
use borrow.Author.Tests.{ltb-false, eqb-false}
use lib.Dec.{ltb, eqb}
use Rattle.sheet.specs.Layout.{tier_of}
use Rattle.arith.specs.Bytes.{byte_at}
use Rattle.sheet.proofs.Bools.{or_false}

pub count_fits : (n : ℕ) → eqb n 0 || ltb 10 n ≡ false → (1 ≤ n) × (n ≤ 10)
count_fits n e =
    let b = or_false (eqb n 0) (ltb 10 n) e in
    (some (eqb-false n 0 b.0), ltb-false 10 n b.1)
  where
    some : (n ≡ 0 → ⊥) → 1 ≤ n
    some h = omega arith

pub tier_size : (s : List ℕ) (at : ℕ) → (tier_of s at).size ≡ byte_at s at
unfolding tier_of
tier_size s at = refl
