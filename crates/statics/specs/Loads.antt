-- Document 01, "Loads on one end": the forces of a box, as exact fractions in N.
use Rattle.std.specs.Prelude.{cond, List, ℕ, ◌≤◌, eqb}
use Rattle.arith.specs.Fractions.{Frac, nat, ◌+q◌, ◌*q◌, ◌/q◌, ◌≈◌, sumq}
use Rattle.springs.specs.Equations.{given}
use Rattle.sheet.specs.Layout.{exposed}
use Rattle.sheet.specs.declared.Tier.{Tier}
use Rattle.sheet.specs.declared.Sheet.{Sheet}
use Rattle.sheet.specs.Routes.{route_percent}
use Rattle.statics.specs.declared.LoadRule.{LoadRule}

abbrev pub half : Frac
half = nat 1 /q nat 2

abbrev pub thousandths : ℕ → Frac
thousandths n = nat n /q nat 1000

-- W: mass × 9.81 N
unfoldable pub weight : Tier → Frac
weight t = nat t.mass *q (nat 981 /q nat 100)

-- F = 0.5 × W × A_T × route factor, or another factor on A_T
unfoldable pub transverse : Frac → Tier → Frac
transverse factor t = half *q weight t *q thousandths t.aT *q factor

-- F_V = 0.5 × W × A_Vmax for compression, and with A_Vmin for tension: `acceleration` picks the one
unfoldable pub vertical_force : (Tier → ℕ) → Tier → Frac
vertical_force acceleration t = half *q weight t *q thousandths (acceleration t)

-- length of a box, mm (CR Table 2-1)
unfoldable pub box_length : Tier → ℕ
box_length t = cond (eqb t.size 20) 6058 12192

-- P = 0.5 × 1,080 N/m² × length × height if exposed, else 0; lengths in mm
unfoldable pub wind : Tier → Frac
wind t = given (exposed t) (half *q nat 1080 *q thousandths (box_length t) *q thousandths t.height)

-- what the loads go by: the share of F that a tier's own top takes, which is the height of its centre as a share of the box's too,
-- and the factor on A_T
pub record Rule : Type 0 where
  pub share : Frac
  pub factor : Frac

-- the share by the rule number: 0.45 by 1, the class rule; half by 2, one operator's book (document 02, P10). No other is taken
abbrev pub share_of : ℕ → Frac
share_of number = cond (eqb number 2) half (nat 45 /q nat 100)

-- the rule of a sheet: the share of its rule number, and the route factor (CR 5.2.4(c))
abbrev pub rule_of : Sheet → Rule
rule_of t = record { share = share_of t.head.rule; factor = nat (route_percent t.head.route) /q nat 100 }

-- Q of a tier = share × F + 0.5 P of its own, plus F + P of every tier above (CR 5.3.2)
unfoldable pub load : Rule → Tier → List Tier → Frac
load rule t above =
    rule.share *q transverse rule.factor t +q half *q wind t +q sumq (λ u. transverse rule.factor u +q wind u) above

-- the rule in whole numbers that the check computes with stands for a rule: the share in twentieths, the factor in thousandths
pub record StandsFor (c : LoadRule) (rule : Rule) : Type 0 where
  pub share : nat 20 *q rule.share ≈ nat c.share
  pub factor : nat 1000 *q rule.factor ≈ nat c.factor
  pub share_most : c.share ≤ 20
  pub factor_most : c.factor ≤ 1000
