-- `springs_balance::in_balance`: what is left of the forces is in range.
use Prim.Native.Nat.{◌^◌}
use mathlib.Core.Path.{◌≡◌}
use native.Mathlib.Omega.{arith}
use lib.Dec.{lit<, lit≤}
use lib.IntN.{pos, ◌+ℤ◌, ◌-ℤ◌}
use mir.Syntax.{w64}
use mir.Val.{to_z, of_z}
use Rattle.arith.specs.Inner.Sizes.{Small}
use Rattle.arith.proofs.Sizes.{divisor, fits64, small_weaken}
use Rattle.arith.proofs.SignedWords.{held}
use Rattle.springs_balance.proofs.Forces.{between_small, held_small, left_small}
use Rattle.springs_balance.proofs.in_balance.Goals as goal

pub overflow_sub-left : goal.overflow_sub-left
overflow_sub-left c =
    let p = c.requires.small in
    simp (held p.0 (lit< tt), held p.1 (lit< tt)) (fits64 (between_small p.0 p.1) (lit< tt))

-- the words before the load is taken hold the numbers
with_lashes :
    (c : goal.After-held_by) →
    let a = c.args in
    to_z w64 (of_z w64 (to_z w64 (of_z w64 a.under) -ℤ to_z w64 (of_z w64 a.over))) +ℤ to_z w64 c.held_by.result
    ≡ a.under -ℤ a.over +ℤ pos c.held_by.result
with_lashes c =
    let p = c.requires.small in
    simp (
      held p.0 (lit< tt),
      held p.1 (lit< tt),
      held (between_small p.0 p.1) (lit< tt),
      divisor c.held_by.result (omega (arith, c.held_by.ensures.1)),
    )

lashed : (c : goal.After-held_by) → let a = c.args in Small (2 ^ 60) (a.under -ℤ a.over +ℤ pos c.held_by.result)
lashed c = held_small c.requires.small.0 c.requires.small.1 c.held_by.ensures.1

pub overflow_add-left : goal.overflow_add-left
overflow_add-left c = rw (with_lashes c) (fits64 (lashed c) (lit< tt))

-- and what is left
load-held : (c : goal.After-held_by) → to_z w64 c.args.omega ≡ pos c.args.omega
load-held c = divisor c.args.omega (omega (arith, c.requires.kappa_le_most_held.1))

left_over : (c : goal.After-held_by) → let a = c.args in
    Small (2 ^ 61) (a.under -ℤ a.over +ℤ pos c.held_by.result -ℤ pos a.omega)
left_over c = left_small c.requires.small.0 c.requires.small.1 c.held_by.ensures.1 c.requires.kappa_le_most_held.1

pub overflow_sub-left-2 : goal.overflow_sub-left-2
overflow_sub-left-2 c = rw (with_lashes c, held (lashed c) (lit< tt), load-held c) (fits64 (left_over c) (lit< tt))

pub size-requires : goal.size-requires
size-requires c =
    rw (with_lashes c, held (lashed c) (lit< tt), load-held c, held (left_over c) (lit< tt)) (small_weaken (left_over c) (lit≤ tt))

pub returns : goal.returns
returns c =
    let e = rw (with_lashes c.before, held (lashed c.before) (lit< tt), load-held c.before, held (left_over c.before) (lit< tt))
    at c.size.ensures.0 in
    rw (e, c.held_by.ensures.0)
