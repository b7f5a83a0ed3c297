-- What the check computes of a sheet, by name: a function of the sheet and of what the loads go by. It is cited whole and need not be
-- believed.
use Rattle.std.specs.Prelude.{cond, List, map, ℕ, suc, ◌*◌, eqb, pos, get_or, length}
use Rattle.arith.specs.Lists.{below, padded}
use Rattle.springs.specs.Inner.Elimination.{solved}
use Rattle.sheet.specs.declared.Head.{Head}
use Rattle.sheet.specs.declared.Tier.{Tier}
use Rattle.sheet.specs.declared.Lash.{Lash}
use Rattle.sheet.specs.declared.Sheet.{Sheet}
use Rattle.sheet.specs.Layout.{blank_tier, blank_lash}
use Rattle.sheet.specs.Routes.{route_percent}
use Rattle.statics.specs.declared.EndFigures.{EndFigures}
use Rattle.statics.specs.declared.Figures.{Figures}
use Rattle.statics.specs.declared.LoadRule.{LoadRule}
use Rattle.statics.specs.Ends.{spring_of}
use Rattle.sheet.specs.Ends.{End, door, closed, tiers_of, lashes_of}
use Rattle.statics.specs.Inner.WholeNumbers.{level_load, level_stiffness, racking_part, racking_figure, compression_figure, tension_figure}
use Rattle.statics.specs.Inner.WholeNumbers.{pull_figure, athwart_figure, vertical_figure}

-- the solver's inputs, in arrays of ten: springs of the tiers; of the level over each, the stiffness of its lashes and its load
abbrev pub springs_of : End → List Tier → List ℕ
springs_of e ts = map (λ i. spring_of e (get_or ts i blank_tier)) (below 10)

unfoldable pub stiffnesses_of : List Lash → List ℕ
stiffnesses_of ls = map (λ i. level_stiffness ls (suc i)) (below 10)

unfoldable pub loads_of : LoadRule → List Tier → List ℕ
loads_of c ts =
    padded 10 0 (map (λ i. level_load c.share c.factor (get_or ts i blank_tier) (get_or ts (suc i) blank_tier)) (below (length ts)))

-- the figures of an end of n tiers, with the springs k, at the shifts d
unfoldable pub figures_at : ℕ → List ℕ → List Tier → List Lash → List ℕ → EndFigures
figures_at n k ts ls d =
    record {
      racking = padded 10 (pos 0) (map (λ i. racking_figure (racking_part (get_or k i 0) d i)) (below n));
      compression = padded 11 0 (map (compression_figure k ts ls d) (below (suc n)));
      tension = padded 10 0 (map (tension_figure k ts ls d) (below n));
      pull = padded 8 0 (map (λ j. pull_figure d (get_or ls j blank_lash)) (below (length ls)));
      athwart = padded 8 0 (map (λ j. athwart_figure d (get_or ls j blank_lash)) (below (length ls)));
      vertical = padded 8 0 (map (λ j. vertical_figure d (get_or ls j blank_lash)) (below (length ls)));
    }

-- the shifts that the solver finds for an end of a sheet, and the figures of the end at them
abbrev pub shifts_of : LoadRule → End → Sheet → List ℕ
shifts_of c e t = solved t.ntiers (springs_of e (tiers_of t)) (stiffnesses_of (lashes_of e t)) (loads_of c (tiers_of t))

abbrev pub end_figures_by : LoadRule → End → Sheet → EndFigures
end_figures_by c e t = figures_at t.ntiers (springs_of e (tiers_of t)) (tiers_of t) (lashes_of e t) (shifts_of c e t)

unfoldable pub figures_by : LoadRule → Sheet → Figures
figures_by c t = record { door = end_figures_by c door t; closed = end_figures_by c closed t }

-- the share by the rule number, in twentieths
abbrev pub share_twentieths : ℕ → ℕ
share_twentieths number = cond (eqb number 2) 10 9

-- the rule of a sheet in whole numbers, by its head: the share of its rule number, and ten times the route's percents
abbrev pub load_rule_by : Head → LoadRule
load_rule_by h = record { share = share_twentieths h.rule; factor = 10 * route_percent h.route }

abbrev pub load_rule_of : Sheet → LoadRule
load_rule_of t = load_rule_by t.head
