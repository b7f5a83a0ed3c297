-- `roll::k3_of`: x is not below zero, so it reads as it is without a sign.
use Prim.Native.Nat.{◌*◌, ◌≤◌}
use mathlib.Core.Path.{subst}
use lib.IntN.{ℤ, pos}
use mir.Syntax.{w32}
use mir.ValLaws.{to_z-of_z}
use Rattle.arith.specs.Fractions.{nat, ◌*q◌, ◌≈◌}
use Rattle.roll.specs.ConditionA.{metres, k₃}
use Rattle.roll.proofs.Ranges.{place, place_unsigned}
use Rattle.roll.proofs.k3_of.Goals as goal

pub overflow_cast-given-2 : goal.overflow_cast-given-2
overflow_cast-given-2 c =
    let p = place c.requires.length.1 c.args.given.x c.requires.x.0 c.requires.x.1 in
    rw (to_z-of_z w32 c.args.given.x p.2) (place_unsigned c.args.given.x c.requires.x.0 p.2)

pub k3_part-requires : goal.k3_part-requires
k3_part-requires c =
    let p = place c.requires.length.1 c.args.given.x c.requires.x.0 c.requires.x.1 in
    rw (to_z-of_z w32 c.args.given.x p.2) (c.requires.length.0, c.requires.length.1, p.1)

pub returns : goal.returns
returns c =
    let p = place c.requires.length.1 c.args.given.x c.requires.x.0 c.requires.x.1 in
    subst
    (λ (x : ℤ). (nat c.k3_part.result ≈ nat (30 * c.args.given.length) *q k₃ (metres (pos c.args.given.length)) (metres x))
    × (c.k3_part.result ≤ 21 * c.args.given.length))
    p.0
    (rw (to_z-of_z w32 c.args.given.x p.2) at c.k3_part.ensures)
