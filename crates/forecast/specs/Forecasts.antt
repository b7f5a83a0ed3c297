-- Document 02, P9: what a call says that is given a sheet, the forecast wave height H and the breadth B in cm, and the voyage in hours.
use Rattle.std.specs.Prelude.{ℕ, not, ◌||◌, List, [], ◌∷◌, leb, length}
use Rattle.arith.specs.Fractions.{nat, ◌/q◌}
use Rattle.sheet.specs.Refusals.{Reading}
use Rattle.sheet.specs.declared.Sheet.{Sheet}
use Rattle.sheet.specs.Layout.{head_of, sheet_of, ◌is◌}
use Rattle.sheet.specs.Refusals.{Row, row, refusal_of, longest_answer}
use Rattle.statics.specs.Loads.{Rule, rule_of}
use Rattle.answer.specs.Outcomes.{Outcome}
use Rattle.answer.specs.Checked.{AnsweredAs}
use Rattle.forecast_factor.specs.Factor.{factor}

-- what the loads go by: the sheet's own rule, with the forecast's factor in place of the route factor
abbrev pub forecast_rule : ℕ → ℕ → Sheet → Rule
forecast_rule h b t = record { share = (rule_of t).share; factor = nat (factor h b) /q nat 1000 }

-- 20, 0: a route other than 0
abbrev pub row20 : ℕ → Row
row20 route = row 20 0 (not (route is 0))

-- 21, 0: 72 hours or more, or B zero
abbrev pub row21 : ℕ → ℕ → Row
row21 b hours = row 21 0 (leb 72 hours || b is 0)

-- after the sheet's own tests 20 and then 21, then a short buffer
abbrev pub forecast_rows : ℕ → ℕ → ℕ → List Row
forecast_rows route b hours = row20 route ∷ row21 b hours ∷ []

abbrev pub forecast_refusal : List ℕ → ℕ → ℕ → ℕ → Reading
forecast_refusal s b hours room = refusal_of s (forecast_rows (head_of s).route b hours) longest_answer room

-- it answers as the check does, margin included
pub record Forecast (margin : ℕ) (s : List ℕ) (h b hours : ℕ) (before after : List ℕ) (r : Outcome) : Type 0 where
  pub holds : AnsweredAs (forecast_refusal s b hours (length before)) margin (forecast_rule h b (sheet_of s)) (sheet_of s) before after r
