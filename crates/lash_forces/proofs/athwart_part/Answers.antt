-- `lash_forces::athwart_part`: stiffness × shift, scaled, and its greatest.
use native.Mathlib.Omega.{arith}
use lib.Dec.{lit<}
use native.Mathlib.Nat.{lt_of_le_of_lt}
use Rattle.lash_forces.proofs.LashLaws.{by_quotient, part_le}
use Rattle.lash_forces.proofs.athwart_part.Goals as goal

pub split_product-requires : goal.split_product-requires
split_product-requires c = (lit< tt, lit< tt, omega (arith, c.requires.0), lt_of_le_of_lt (by_quotient c.requires.0 c.requires.1) (lit< tt))

pub returns : goal.returns
returns c =
    (c.split_product.ensures, rw c.split_product.ensures (part_le c.requires.0 c.requires.1))
