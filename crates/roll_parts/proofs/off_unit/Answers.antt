-- `roll_parts::off_unit`: squares of numbers up to 10,000 fit; above, one square alone is too great.
use Prim.Native.Nat.{ℕ, ◌+◌, ◌*◌, ◌≤◌}
use mathlib.Core.Bool.{true}
use mathlib.Core.Logic.{◌⊎◌, inl, inr}
use mathlib.Core.Path.{◌≡◌, sym}
use native.Mathlib.Nat.{mul-le-mul, add_comm}
use native.Mathlib.Omega.{arith}
use borrow.Author.Tests.{ltb-true, ltb-false, lt-ltb}
use lib.Dec.{ltb}
use lib.IntN.{pos, nat_abs, ◌-ℤ◌}
use Rattle.sheet.proofs.Bools.{or_true, or_false}
use Rattle.roll_parts.proofs.Signs.{off_either, square_above}
use Rattle.roll_parts.proofs.off_unit.Goals as goal

pub returns-then-sine-cosine : goal.returns-then-sine-cosine
returns-then-sine-cosine c = sym (too_great c.args.sine c.args.cosine (or_true _ _ c.if-sine-cosine.true))
  where
    too_great :
        (a b : ℕ) →
        (ltb 10000 a ≡ true) ⊎ (ltb 10000 b ≡ true) →
        ltb 15000 (nat_abs (pos (a * a + b * b) -ℤ pos 100000000)) ≡ true
    too_great a b (inl e) = lt-ltb _ _ (square_above a b (ltb-true _ _ e))
    too_great a b (inr e) = rw (add_comm (a * a) (b * b)) (lt-ltb _ _ (square_above b a (ltb-true _ _ e)))

-- up to 10,000
squares :
    (c : goal.Else-sine-cosine) →
    (c.args.sine * c.args.sine ≤ 10000 * 10000)
    × (c.args.cosine * c.args.cosine ≤ 10000 * 10000)
squares c =
    let e = or_false _ _ c.if-sine-cosine.false in
    let s = ltb-false _ _ e.0 in
    let k = ltb-false _ _ e.1 in
    (mul-le-mul s s, mul-le-mul k k)

pub overflow_mul-sum : goal.overflow_mul-sum
overflow_mul-sum c = omega (arith, (squares c).0, (squares c).1)

pub overflow_mul-sum-2 : goal.overflow_mul-sum-2
overflow_mul-sum-2 c = omega (arith, (squares c).0, (squares c).1)

pub overflow_add-sum : goal.overflow_add-sum
overflow_add-sum c = omega (arith, (squares c).0, (squares c).1)

pub returns : goal.returns
returns c =
    let a = c.args in
    off_either (a.sine * a.sine + a.cosine * a.cosine)
