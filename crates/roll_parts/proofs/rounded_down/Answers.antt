-- `roll_parts::rounded_down`: the whole thousandths, and one more, taken off as signed numbers.
use Prim.Native.Nat.{ℕ, ◌+◌, ◌-◌, ◌/◌, ◌^◌}
use mathlib.Core.Path.{◌≡◌, refl}
use native.Mathlib.Omega.{arith}
use lib.Dec.{lit<}
use lib.IntN.{pos}
use mir.Syntax.{w64}
use mir.Val.{to_z}
use mir.ValLaws.{to_z-of_z}
use Rattle.arith.specs.Inner.Sizes.{Small}
use Rattle.arith.proofs.Sizes.{divisor, fits64}
use Rattle.roll_parts.specs.Inner.Parts.{down_of}
use Rattle.roll_parts.proofs.Bounds.{thousandths_most, down_small}
use Rattle.roll_parts.proofs.rounded_down.Goals as goal

abbrev tops : goal.Start → ℕ
tops c = (c.args.still + (c.args.parts - c.args.roll.rest)) / c.args.parts

-- the two numbers, read back, and their difference
first : (c : goal.Start) → to_z w64 (tops c) ≡ pos (tops c)
first c = divisor (tops c) (omega (arith, thousandths_most c.args.roll.rest c.requires.2 c.requires.1 c.requires.3))

next : (c : goal.Start) → to_z w64 (c.args.roll.whole + 1) ≡ pos (c.args.roll.whole + 1)
next c = divisor (c.args.roll.whole + 1) (omega (arith, c.requires.3))

small : (c : goal.Start) → Small (2 ^ 55) (down_of c.args.still c.args.roll c.args.parts)
small c = down_small c.args.roll.rest c.requires.2 c.requires.1 c.requires.3

pub overflow_cast-result : goal.overflow_cast-result
overflow_cast-result c = omega (arith, thousandths_most c.args.roll.rest c.requires.2 c.requires.1 c.requires.3)

pub overflow_sub-result-2 : goal.overflow_sub-result-2
overflow_sub-result-2 c = simp (first c, next c) (fits64 (small c) (lit< tt))

pub returns : goal.returns
returns c =
    simp (first c, next c, to_z-of_z w64 (down_of c.args.still c.args.roll c.args.parts) (fits64 (small c) (lit< tt)))
    (refl, small c)
