-- `load_rules::rule_of`: the share of the rule number in twentieths, and ten times the route's percents.
use mathlib.Core.Path.{ap₂}
use Prim.Native.Nat.{ℕ, ◌*◌}
use native.Mathlib.Omega.{arith}
use Rattle.statics.specs.declared.LoadRule.{LoadRule}
use Rattle.load_rules.proofs.rule_of.Goals as goal

pub returns : goal.returns
returns c =
    let share = c.share_of.ensures in
    let percent = c.route_percent.ensures in (
      ap₂ {C = LoadRule} (λ (n p : ℕ). record { share = n; factor = 10 * p }) share.0 percent.0,
      share.1,
      omega (arith, percent.2),
    )
