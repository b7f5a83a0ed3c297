-- `arith::bytes::write_signed` writes the four bytes of the bits.
use mir.Syntax.{w32}
use mir.ValLaws.{to_z-of_z}
use Rattle.arith.proofs.bytes.write_signed.Goals as goal

pub returns : goal.returns
returns c =
    let e = simp (to_z-of_z w32 c.args.x c.ranges.x) at c.bits.ensures.0 in
    rw (← e) c.write4.ensures
