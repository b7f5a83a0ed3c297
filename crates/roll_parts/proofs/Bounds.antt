-- How great the parts of an acceleration are.
use Prim.Native.Nat.{ℕ, ◌+◌, ◌*◌, ◌-◌, ◌/◌, ◌%◌, ◌^◌, ◌<◌, ◌≤◌}
use native.Mathlib.Nat.{mul-le-mul, mul-le-mul_right, mul-div-le, div-le_of_le-mul, div-lt_iff_lt-mul, div-le_self, mod-lt}
use native.Mathlib.Omega.{arith}
use lib.IntN.{pos, ◌-ℤ◌}
use Rattle.arith.specs.Inner.Rounding.{rounded_up}
use Rattle.arith.specs.Inner.Sizes.{Small}
use Rattle.arith.proofs.Sizes.{small_pos, small_sub, small_weaken}
use Rattle.roll_parts.specs.Inner.Parts.{still_of, turn_of, over_of}

-- gravity and heave
module _ {trig heave length factor : ℕ} (t : trig ≤ 10000) (a : heave ≤ 10000) (l : length ≤ 500000) (f : factor ≤ 51 * length) where
  pub heave_most : heave * factor ≤ 10000 * 25500000
  heave_most = let g : factor ≤ 25500000 = omega arith in mul-le-mul a g

  pub still_most : still_of trig heave length factor ≤ 10000 * 405000000000
  still_most =
      let h : 300000 * length + heave * factor ≤ 405000000000 = omega (arith, heave_most) in
      mul-le-mul t h

-- the roll
module _ {angle distance : ℕ} (q : angle ≤ 9000) (d : distance ≤ 1000000) where
  pub turn_most : turn_of angle distance ≤ 6309000 * 1000000
  turn_most = let h : 701 * angle ≤ 6309000 = omega arith in mul-le-mul h d

module _ {period : ℕ} (p : 1 ≤ period) (p' : period ≤ 10000) where
  pub square_most : period * period ≤ 10000 * 10000
  square_most = mul-le-mul p' p'

  pub square_least : 1 * 1 ≤ period * period
  square_least = mul-le-mul p p

  pub whole_most : {turn : ℕ} → turn ≤ 6309000 * 1000000 → turn / over_of period ≤ 2 ^ 36
  whole_most {turn} h = div-le_of_le-mul (over_of period) (omega (arith, square_least))

  -- the parts over whole thousandths: the product by parts stays in range, and is at most a thousandth
  module _ (turn length : ℕ) (l : length ≤ 500000) where
    over_most : turn % over_of period ≤ over_of period
    over_most =
        let z : 0 < over_of period = omega (arith, square_least) in
        omega (arith, mod-lt turn z)

    pub scaled_most : turn % over_of period * period < 2 ^ 64
    scaled_most =
        let h : turn % over_of period ≤ 10000000000 = omega (arith, over_most, square_most) in
        omega (arith, mul-le-mul h p')

    pub split_most : turn % over_of period * (30000 * length / period + 1) < 2 ^ 64
    split_most =
        let k = 30000 * length / period in
        let h : period * k ≤ 30000 * 500000 = omega (arith, mul-div-le (30000 * length) period) in
        omega (arith, mul-le-mul p' h, square_most, mul-le-mul_right (k + 1) over_most)

    pub rest_most : rounded_up (turn % over_of period * (30000 * length)) (period * period) ≤ 3000000 * length
    rest_most =
        let z : 0 < period * period = omega (arith, square_least) in
        let h : turn % over_of period * (30000 * length) + (period * period - 1) < (3000000 * length + 1) * (period * period) =
        omega (arith, square_least, mul-le-mul_right (30000 * length) over_most)
        in
        omega (arith, (div-lt_iff_lt-mul z).1 h)

-- with the roll taken off
module _ {still parts whole : ℕ} (over : ℕ) (s : still ≤ 2 ^ 53) (p : parts ≤ 2 ^ 41) (w : whole ≤ 2 ^ 36) where
  pub thousandths_most : (still + (parts - over)) / parts ≤ 2 ^ 54
  thousandths_most = omega (arith, div-le_self (still + (parts - over)) parts)

  pub down_small : Small (2 ^ 55) (pos ((still + (parts - over)) / parts) -ℤ pos (whole + 1))
  down_small =
      let h : whole + 1 ≤ 2 ^ 37 = omega arith in
      small_weaken (small_sub (small_pos thousandths_most) (small_pos h)) (omega arith)
