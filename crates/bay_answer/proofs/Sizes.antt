-- The size of a signed number by its bits, the larger of two numbers, and accepted rows by the verdict byte.
use Prim.Native.Nat.{ℕ, ◌<◌, ◌≤◌, ◌^◌, max}
use mathlib.Core.Bool.{cond}
use mathlib.Core.List.{List, [], ◌∷◌}
use mathlib.Core.Path.{◌≡◌, refl}
use native.Mathlib.Omega.{arith}
use lib.Dec.{eqb}
use lib.ListN.{length}
use mir.Syntax.{w32}
use mir.Val.{to_z}
use Rattle.std.proofs.lemmas.Bool.Decides.{nat_tests}
use Rattle.std.proofs.lemmas.Int.{ints}
use Rattle.arith.specs.Bytes.{byte_at, of_twos}
use Rattle.bay_wind.specs.Sums.{larger}
use Rattle.bay_answer.specs.Rows.{accepted_in}

-- the number whose 32 bits are v, as std has it
pub of_twos_is : (v : ℕ) → v < 2 ^ 32 → to_z w32 v ≡ of_twos v
unfolding of_twos
of_twos_is v h = grind (arith, ints, nat_tests)

-- the larger of two, as std has it
pub larger_max : (a b : ℕ) → larger a b ≡ max a b
unfolding larger
larger_max a b = grind (arith, nat_tests)

pub larger_most : (a b most : ℕ) → a ≤ most → b ≤ most → larger a b ≤ most
larger_most a b most h k = omega (arith, larger_max a b)

-- the larger of four, in another order
pub larger_crossed : (a b c d : ℕ) → larger (larger a b) (larger c d) ≡ larger (larger a c) (larger b d)
larger_crossed a b c d = simp larger_max (omega arith)

-- an answer has a verdict byte
pub accepted_is : (answer : List ℕ) → 1 ≤ length answer → cond (eqb (byte_at answer 0) 0) 1 0 ≡ accepted_in answer
unfolding accepted_in
accepted_is [] h = absurd (omega (arith, h))
accepted_is (verdict ∷ rest) h = refl
