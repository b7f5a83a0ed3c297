-- `roll::vertical_least`: the difference at the distance from the centreline, cut at 1,000.
use mathlib.Core.Path.{ap, sym, ◌∙◌}
use native.Mathlib.Omega.{arith}
use lib.Dec.{lit<}
use lib.IntN.{+ℤ_idr}
use mir.Syntax.{w32, w64}
use mir.ValLaws.{to_z-of_z}
use Rattle.arith.proofs.Sizes.{fits64, small_pos}
use Rattle.roll.specs.ConditionA.{metres}
use Rattle.roll.specs.Rounded.{cut}
use Rattle.roll.proofs.Formulas.{least_is}
use Rattle.roll.proofs.Ranges.{length32, cut_above, cut_within}
use Rattle.roll.proofs.Scales.{size_metres}
use Rattle.roll.proofs.vertical_least.Goals as goal

pub returns-then-least-gt1000 : goal.returns-then-least-gt1000
returns-then-least-gt1000 c =
    let z = c.taken_off-least in
    let y = c.args.given.y in
    let far = simp (to_z-of_z w32 y (length32 y c.requires.y), +ℤ_idr y) at c.distance.ensures.0 in
    let least = ap cut (z.ensures.0 (metres y) (rw far (size_metres y))) ∙ sym (least_is c.args.given) in
    let e = simp (to_z-of_z w64 z.result (fits64 z.ensures.1 (lit< tt))) at c.if-least-gt1000.true in
    (sym (cut_above z.result e) ∙ least, small_pos (omega arith))

pub returns : goal.returns
returns c =
    let z = c.taken_off-least in
    let y = c.args.given.y in
    let far = simp (to_z-of_z w32 y (length32 y c.requires.y), +ℤ_idr y) at c.distance.ensures.0 in
    let least = ap cut (z.ensures.0 (metres y) (rw far (size_metres y))) ∙ sym (least_is c.args.given) in
    let back = to_z-of_z w64 z.result (fits64 z.ensures.1 (lit< tt)) in
    let e = simp back at c.if-least-gt1000.false in
    simp back (sym (cut_within z.result e) ∙ least, z.ensures.1)
