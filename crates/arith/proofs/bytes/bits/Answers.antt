-- `arith::bytes::bits`: the word that holds the number, by its sign or not.
use mathlib.Core.Path.{◌≡◌, ap, ◌∙◌}
use mir.Syntax.{w32}
use mir.Val.{of_z}
use mir.ValLaws.{to_z-of_z}
use Rattle.arith.specs.Bytes.{twos}
use Rattle.arith.proofs.ByteLaws.{twos_word, twos_lt}
use Rattle.arith.proofs.bytes.bits.Goals as goal

pub returns : goal.returns
returns c =
    let x = c.args.x in
    let e : c.from.result ≡ twos x =
    c.from.ensures ∙ c.cast_unsigned.ensures ∙ ap (of_z w32) (to_z-of_z w32 x c.ranges.x) ∙ twos_word x in
    (e, rw e (twos_lt x c.ranges.x))
