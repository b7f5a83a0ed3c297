-- `roll::k3_part`: the case by whole numbers is the case of k_3.
use native.Mathlib.Omega.{arith}
use Rattle.roll.proofs.Factor.{part_aft, part_fore, part_amid}
use Rattle.roll.proofs.k3_part.Goals as goal

pub returns-then-x-length : goal.returns-then-x-length
returns-then-x-length c = (part_aft c.args.length c.args.x c.requires.0 c.if-x-length.true, omega (arith, c.if-x-length.true))

pub returns-then-length-x : goal.returns-then-length-x
returns-then-length-x c =
    (part_fore c.args.length c.args.x c.requires.0 c.if-x-length.false c.if-length-x.true, omega (arith, c.requires.2))

pub returns : goal.returns
returns c =
    (part_amid c.args.length c.args.x c.requires.0 c.if-x-length.false c.if-length-x.false, omega arith)
