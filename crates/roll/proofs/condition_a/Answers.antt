-- `roll::condition_a`: 18, then 19 by the first acceleration outside, then the accelerations. Each return follows from the rows that
-- passed before it.
use Prim.Native.Nat.{◌^◌}
use mathlib.Core.Path.{◌≡◌, ap, sym, ◌∙◌}
use lib.Dec.{lit<}
use lib.IntN.{ℤ, nat_abs}
use mir.Syntax.{w64}
use mir.Val.{to_z, of_z}
use mir.ValLaws.{to_z-of_z}
use Rattle.arith.proofs.Sizes.{fits64}
use Rattle.arith.specs.Inner.Sizes.{Small}
use Rattle.roll.specs.Rounded.{vertical_least}
use Rattle.roll.proofs.Outcomes.{refused_18, refused_19_1, refused_19_2, refused_19_3, given, legal, beyond, inside}
use Rattle.roll.proofs.Outcomes.{under_zero, least_inside}
use Rattle.roll.proofs.Ranges.{unsigned64}
use Rattle.roll.proofs.condition_a.Goals as goal

pub returns-then-refused : goal.returns-then-refused
returns-then-refused c = sym (refused_18 c.args.given (sym c.refused.ensures ∙ c.if-refused.true))

pub transverse-a_t-requires : goal.transverse-a_t-requires
transverse-a_t-requires c = legal c.args.given (sym c.refused.ensures ∙ c.if-refused.false)

pub returns-then-a_t-gt1500 : goal.returns-then-a_t-gt1500
returns-then-a_t-gt1500 c =
    let e = sym c.refused.ensures ∙ c.if-refused.false in
    sym (refused_19_1 c.args.given e (beyond _ 1500 c.transverse-a_t.ensures c.if-a_t-gt1500.true))

pub vertical_most-a_vmax-requires : goal.vertical_most-a_vmax-requires
vertical_most-a_vmax-requires c =
    let e = sym c.refused.ensures ∙ c.if-refused.false in
    legal c.args.given e

pub returns-then-a_vmax-gt3000 : goal.returns-then-a_vmax-gt3000
returns-then-a_vmax-gt3000 c =
    let e = sym c.refused.ensures ∙ c.if-refused.false in
    let f = inside _ 1500 c.transverse-a_t.ensures c.if-a_t-gt1500.false in
    sym (refused_19_2 c.args.given e f (beyond _ 3000 c.vertical_most-a_vmax.ensures c.if-a_vmax-gt3000.true))

pub vertical_least-a_vmin-requires : goal.vertical_least-a_vmin-requires
vertical_least-a_vmin-requires c =
    let e = sym c.refused.ensures ∙ c.if-refused.false in
    legal c.args.given e

-- A_Vmin read back
held : (z : ℤ) → Small (2 ^ 55) z → to_z w64 (of_z w64 z) ≡ z
held z small = to_z-of_z w64 z (fits64 small (lit< tt))

pub returns-then-a_vmin-lt0 : goal.returns-then-a_vmin-lt0
returns-then-a_vmin-lt0 c =
    let e = sym c.refused.ensures ∙ c.if-refused.false in
    let f = inside _ 1500 c.transverse-a_t.ensures c.if-a_t-gt1500.false in
    let h = inside _ 3000 c.vertical_most-a_vmax.ensures c.if-a_vmax-gt3000.false in
    let z = rw c.vertical_least-a_vmin.ensures.0 at (simp (held c.vertical_least-a_vmin.result c.vertical_least-a_vmin.ensures.1) at c.if-a_vmin-lt0.true) in
    sym (refused_19_3 c.args.given e f h (under_zero (vertical_least c.args.given) 1000 z))

pub overflow_cast-result : goal.overflow_cast-result
overflow_cast-result c =
    let r = c.vertical_least-a_vmin in
    rw (held c.vertical_least-a_vmin.result c.vertical_least-a_vmin.ensures.1)
    (unsigned64 r.result (simp (held c.vertical_least-a_vmin.result c.vertical_least-a_vmin.ensures.1) at c.if-a_vmin-lt0.false) (fits64 r.ensures.1 (lit< tt)))

pub returns : goal.returns
returns c =
    let g = c.args.given in
    let e = sym c.refused.ensures ∙ c.if-refused.false in
    let f = inside _ 1500 c.transverse-a_t.ensures c.if-a_t-gt1500.false in
    let h = inside _ 3000 c.vertical_most-a_vmax.ensures c.if-a_vmax-gt3000.false in
    let z = rw c.vertical_least-a_vmin.ensures.0 at (simp (held c.vertical_least-a_vmin.result c.vertical_least-a_vmin.ensures.1) at c.if-a_vmin-lt0.false) in
    rw (
      held c.vertical_least-a_vmin.result c.vertical_least-a_vmin.ensures.1,
      c.vertical_least-a_vmin.ensures.0,
      ap nat_abs c.transverse-a_t.ensures,
      ap nat_abs c.vertical_most-a_vmax.ensures,
    )
    (sym (given g e f h (least_inside g z)))
