-- `bay_answer::size_at`: std's signed number of those bits is the definition's.
use mathlib.Core.Path.{ap, ◌∙◌}
use native.Mathlib.Omega.{arith}
use lib.IntN.{nat_abs}
use mir.Syntax.{w32}
use mir.Val.{SFits}
use Rattle.std.proofs.Common.{rules}
use Rattle.std.proofs.Math.Facts.{to_z-of_z}
use Rattle.arith.specs.Bytes.{of_twos}
use Rattle.bay_answer.proofs.Sizes.{of_twos_is}
use Rattle.bay_answer.proofs.size_at.Goals as goal

pub overflow_cast-bits : goal.overflow_cast-bits
overflow_cast-bits c = omega (arith, c.read4-bits.ensures.1)

pub returns : goal.returns
returns c =
    let r = c.read4-bits in
    let fits : SFits w32 c.cast_signed.result = search rules in
    let value = to_z-of_z fits ∙ c.cast_signed.ensures ∙ of_twos_is r.result r.ensures.1 ∙ ap of_twos r.ensures.0 in
    (c.unsigned_abs.ensures.value ∙ ap nat_abs value, c.unsigned_abs.ensures.bound)
