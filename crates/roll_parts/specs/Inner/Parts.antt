-- What an acceleration is computed of: parts of a thousandth of g, 3,000,000 × the ship's length in mm of them.
use Rattle.std.specs.Prelude.{ℕ, ◌+◌, ◌*◌, ◌-◌, ◌/◌, ◌%◌, ℤ, pos, ◌-ℤ◌}
use Rattle.arith.specs.Inner.Rounding.{rounded_up}
use Rattle.roll_parts.specs.declared.RollPart.{RollPart}

abbrev pub parts_of : ℕ → ℕ
parts_of length = 3000000 * length

-- gravity and heave, where 1 + k_3 or 1 − k_3 is factor / (30 length)
abbrev pub still_of : ℕ → ℕ → ℕ → ℕ → ℕ
still_of trig heave length factor = trig * (300000 * length + heave * factor)

-- the roll, k_C × θ / T_R² × distance, is turn_of / over_of thousandths: whole thousandths, and the parts over them, rounded up
abbrev pub turn_of : ℕ → ℕ → ℕ
turn_of angle distance = 701 * angle * distance

abbrev pub over_of : ℕ → ℕ
over_of period = 100 * (period * period)

abbrev pub roll_of : ℕ → ℕ → ℕ → ℕ → RollPart
roll_of angle period distance length =
    record {
      whole = turn_of angle distance / over_of period;
      rest = rounded_up (turn_of angle distance % over_of period * (30000 * length)) (period * period);
    }

-- both together rounded up, and the roll taken off rounded down
abbrev pub up_of : ℕ → RollPart → ℕ → ℕ
up_of still roll parts = roll.whole + rounded_up (still + roll.rest) parts

abbrev pub down_of : ℕ → RollPart → ℕ → ℤ
down_of still roll parts = pos ((still + (parts - roll.rest)) / parts) -ℤ pos (roll.whole + 1)
