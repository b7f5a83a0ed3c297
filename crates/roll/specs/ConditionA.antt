-- CR 5.2.4(a), Condition A, Roll and Heave: exact accelerations in g, in CR's letters with its lines quoted. What is given is scaled as
-- document 02, P8, says: sine, cosine and a_0 in ten-thousandths, the angle in hundredths of a degree, the period in hundredths of a
-- second, lengths in millimetres. Nothing ties the sine and cosine given to the angle.
use Rattle.std.specs.Prelude.{ℕ, Bool, cond, ℤ, pos, ◌*ℤ◌}
use Rattle.std.specs.Int.Signed.{lt_z}
use Rattle.arith.specs.Fractions.{Frac, nat, int, ◌+q◌, ◌-q◌, ◌*q◌, ◌/q◌, absq}
use Rattle.roll.specs.declared.Condition.{Condition}

abbrev pub ten_thousandths : ℕ → Frac
ten_thousandths n = nat n /q nat 10000

abbrev pub hundredths : ℕ → Frac
hundredths n = nat n /q nat 100

abbrev pub metres : ℤ → Frac
metres mm = int mm /q nat 1000

-- x < y
infix 4 ◌below◌
abbrev pub ◌below◌ : Frac → Frac → Bool
x below y = lt_z (x.top *ℤ y.bot) (y.top *ℤ x.bot)

-- "k_C = 0.0701 for x_C, y_C, z_C in m"
abbrev pub k_c : Frac
k_c = ten_thousandths 701

-- "k_3 = 0.5 × ((0.2L − x_C) / 0.2L) for x_C < 0.2L; = 0.0 for 0.2L ≤ x_C ≤ 0.7L; = 0.7 × ((x_C − 0.7L) / 0.3L) for x_C > 0.7L"
abbrev pub tenths : ℕ → Frac
tenths n = nat n /q nat 10

abbrev pub aft : Frac → Frac → Frac
aft L x-C = tenths 5 *q ((tenths 2 *q L -q x-C) /q (tenths 2 *q L))

abbrev pub fore : Frac → Frac → Frac
fore L x-C = tenths 7 *q ((x-C -q tenths 7 *q L) /q (tenths 3 *q L))

unfoldable pub k₃ : Frac → Frac → Frac
k₃ L x-C = cond (x-C below tenths 2 *q L) (aft L x-C) (cond (tenths 7 *q L below x-C) (fore L x-C) (nat 0))

abbrev pub k₃of : Condition → Frac
k₃of g = k₃ (metres (pos g.length)) (metres g.x)

-- "a_RT = θ / T_R² × |z_C − R_CTR|", "a_RV = θ / T_R² × |y_C|": at a distance from the roll centre, or from the centreline
unfoldable pub roll_at : Condition → Frac → Frac
roll_at g distance = hundredths g.angle /q (hundredths g.period *q hundredths g.period) *q absq distance

abbrev pub a_rt : Condition → Frac
a_rt g = roll_at g (metres g.z -q metres g.centre)

abbrev pub a_rv : Condition → Frac
a_rv g = roll_at g (metres g.y)

-- "A_T = a_GT + k_C a_RT + (1 + k_3) a_0 sin θ", where a_GT = sin θ
unfoldable pub a_t : Condition → Frac
a_t g =
    let sine = ten_thousandths g.sine in
    sine +q k_c *q a_rt g +q (nat 1 +q k₃of g) *q ten_thousandths g.heave *q sine

-- "A_VMAX = a_GRV + k_C a_RV + (1 + k_3) a_0 cos θ", where a_GRV = cos θ
unfoldable pub a_vmax : Condition → Frac
a_vmax g =
    let cosine = ten_thousandths g.cosine in
    cosine +q k_c *q a_rv g +q (nat 1 +q k₃of g) *q ten_thousandths g.heave *q cosine

-- "A_VMIN = a_GRV − k_C a_RV + (1 − k_3) a_0 cos θ": the plus as printed
unfoldable pub a_vmin : Condition → Frac
a_vmin g =
    let cosine = ten_thousandths g.cosine in
    cosine -q k_c *q a_rv g +q (nat 1 -q k₃of g) *q ten_thousandths g.heave *q cosine
