-- Document 02, P8: the accelerations in whole thousandths of g, and what is refused.
use Rattle.std.specs.Prelude.{Result, ℕ, ◌+◌, ◌*◌, Bool, not, cond, ◌&&◌, ◌||◌, [], ◌∷◌, ℤ, pos, nat_abs, ◌-ℤ◌}
use Rattle.std.specs.Int.Signed.{le_z}
use Rattle.arith.specs.Fractions.{nat, ◌*q◌}
use Rattle.arith.specs.Wholes.{floor, ceiling}
use Rattle.sheet.specs.Layout.{◌is◌, ◌above◌}
use Rattle.sheet.specs.Refusals.{Row, row, first, unless_refused}
use Rattle.roll.specs.declared.Condition.{Condition}
use Rattle.roll.specs.declared.Accelerations.{Accelerations}
use Rattle.sheet.specs.declared.Refusal.{Refusal}
use Rattle.roll.specs.ConditionA.{a_t, a_vmax, a_vmin}

-- A_T and A_Vmax are rounded up to thousandths, A_Vmin down, and A_Vmin alone is then cut at 1,000
abbrev pub cut : ℤ → ℤ
cut z = cond (le_z z (pos 1000)) z (pos 1000)

unfoldable pub transverse : Condition → ℤ
transverse g = ceiling (nat 1000 *q a_t g)

unfoldable pub vertical_most : Condition → ℤ
vertical_most g = ceiling (nat 1000 *q a_vmax g)

unfoldable pub vertical_least : Condition → ℤ
vertical_least g = cut (floor (nat 1000 *q a_vmin g))

-- 18, 0: a ship's length or period of zero, a period over 100 s, an angle over 90 degrees, a0 over 1, any length beyond 500 m either
-- way, x outside 0 to the ship's length, or sine² + cosine² further than 15,000 from 100,000,000
abbrev pub far : ℤ → Bool
far mm = nat_abs mm above 500000

abbrev pub along : ℤ → ℕ → Bool
along x length = le_z (pos 0) x && le_z x (pos length)

abbrev pub off_unit : ℕ → ℕ → Bool
off_unit sine cosine = nat_abs (pos (sine * sine + cosine * cosine) -ℤ pos 100000000) above 15000

abbrev pub row18 : Condition → Row
row18 g =
    row 18 0
    (g.length is 0 || g.period is 0
    || g.period above 10000
    || g.angle above 9000
    || g.heave above 10000
    || far (pos g.length) || far g.centre || far g.x || far g.y || far g.z
    || not (along g.x g.length)
    || off_unit g.sine g.cosine)

-- 19, with 1, 2 or 3, for the first of A_T, A_Vmax and A_Vmin outside document 01's limits: 0 to 1,500, 0 to 3,000, 0 to 1,000
abbrev pub row19 : ℕ → ℕ → ℤ → Row
row19 which most z = row 19 which (not (along z most))

-- what is answered: accelerations, or why none are given
abbrev pub Rolled : Type 0
Rolled = Result Accelerations Refusal

-- the first row that holds turns the question back; where none does, the accelerations are given
unfoldable pub condition_a : Condition → Rolled
condition_a g =
    unless_refused
    (first (row18 g ∷ row19 1 1500 (transverse g) ∷ row19 2 3000 (vertical_most g) ∷ row19 3 1000 (vertical_least g) ∷ []))
    (record { aT = nat_abs (transverse g); aVmax = nat_abs (vertical_most g); aVmin = nat_abs (vertical_least g) })
