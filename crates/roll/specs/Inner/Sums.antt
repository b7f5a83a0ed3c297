-- What the accelerations are computed from: legal numbers, and A_T and A_VMAX as one sum, by the sine or the cosine and a distance.
use Rattle.std.specs.Prelude.{ℕ, ◌≤◌, pos, nat_abs, ◌≤ℤ◌}
use Rattle.arith.specs.Fractions.{Frac, nat, ◌+q◌, ◌-q◌, ◌*q◌}
use Rattle.roll.specs.declared.Condition.{Condition}
use Rattle.roll.specs.ConditionA.{ten_thousandths, k_c, k₃of, roll_at}

-- what 18 does not refuse
pub record Legal (g : Condition) : Type 0 where
  pub sine : g.sine ≤ 10000
  pub cosine : g.cosine ≤ 10000
  pub heave : g.heave ≤ 10000
  pub angle : g.angle ≤ 9000
  pub period : (1 ≤ g.period) × (g.period ≤ 10000)
  pub length : (1 ≤ g.length) × (g.length ≤ 500000)
  pub centre : nat_abs g.centre ≤ 500000
  pub x : (pos 0 ≤ℤ g.x) × (g.x ≤ℤ pos g.length)
  pub y : nat_abs g.y ≤ 500000
  pub z : nat_abs g.z ≤ 500000

unfoldable pub sum : Condition → ℕ → Frac → Frac
sum g trig D =
    let t = ten_thousandths trig in
    t +q k_c *q roll_at g D +q (nat 1 +q k₃of g) *q ten_thousandths g.heave *q t

unfoldable pub difference : Condition → ℕ → Frac → Frac
difference g trig D =
    let t = ten_thousandths trig in
    t -q k_c *q roll_at g D +q (nat 1 -q k₃of g) *q ten_thousandths g.heave *q t
