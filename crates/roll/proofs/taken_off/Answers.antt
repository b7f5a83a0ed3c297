-- `roll::taken_off`: the parts are those of the exact difference, so the thousandths are those that it rounds down to.
use Prim.Native.Nat.{◌*◌, ◌≤◌}
use mathlib.Core.Path.{sym, subst}
use native.Mathlib.Omega.{arith}
use lib.Dec.{lit<}
use mir.Syntax.{w64}
use mir.ValLaws.{to_z-of_z}
use Rattle.arith.proofs.Sizes.{fits64}
use Rattle.roll_parts.specs.Inner.Parts.{parts_of}
use Rattle.roll.proofs.Exact.{difference_rounded}
use Rattle.roll.proofs.taken_off.Goals as goal

pub returns : goal.returns
returns c =
    let a = c.args in
    let k = c.k3_of in
    let roll = c.roll_at in
    let most = subst (λ p. p.rest ≤ parts_of a.given.length) roll.ensures.0 roll.ensures.2 in
    let part : k.result ≤ 30 * a.given.length = omega (arith, k.ensures.1) in
    let exact = difference_rounded a.given c.requires.0 a.given.cosine k.result a.distance in
    let down = c.rounded_down in
    let back = to_z-of_z w64 down.result (fits64 down.ensures.1 (lit< tt)) in
    rw back (
      λ D h.
          rw (down.ensures.0, roll.ensures.0, c.still_part-still.ensures.0) (sym (exact D k.ensures.0 h part most)),
      down.ensures.1,
    )
