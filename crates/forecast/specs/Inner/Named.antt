-- What a forecast's call answers, by name: a function of its input, as the check's answer is. Theorems says what it is worth; nothing here
-- need be believed.
use Rattle.std.specs.Prelude.{List, [], ◌∷◌, ◌++◌, ◌≡◌, ℕ, length}
use Rattle.sheet.specs.Refusals.{Reading}
use Rattle.sheet.specs.declared.Sheet.{Sheet}
use Rattle.sheet.specs.Layout.{sheet_of}
use Rattle.sheet.specs.Refusals.{row13, first, longest_answer}
use Rattle.statics.specs.declared.LoadRule.{LoadRule}
use Rattle.statics.specs.Inner.Computed.{load_rule_of}
use Rattle.answer.specs.Outcomes.{Outcome}
use Rattle.answer.specs.Inner.Named.{answer_by, returned_as, written_as}
use Rattle.forecast_factor.specs.Factor.{factor}
use Rattle.forecast.specs.Forecasts.{forecast_rows, forecast_refusal}

-- the rule in whole numbers, and the bytes of the answer
abbrev pub forecast_load_rule : ℕ → ℕ → Sheet → LoadRule
forecast_load_rule h b t = record { share = (load_rule_of t).share; factor = factor h b }

abbrev pub forecast_bytes : ℕ → ℕ → Sheet → List ℕ
forecast_bytes h b t = answer_by (forecast_load_rule h b t) t

-- what a taken sheet may still be turned back for
abbrev pub own_reading : Sheet → ℕ → ℕ → ℕ → Reading
own_reading t b hours room = first (forecast_rows t.head.route b hours ++ (row13 longest_answer room ∷ []))

-- what its call returns then, and leaves in a buffer that held `before`
abbrev pub OwnAnswer : Sheet → ℕ → ℕ → ℕ → List ℕ → List ℕ → Outcome → Type 0
OwnAnswer t h b hours before after r =
    (r ≡ returned_as (own_reading t b hours (length before)) (forecast_bytes h b t))
    × (after ≡ written_as (own_reading t b hours (length before)) (forecast_bytes h b t) before)

-- what is returned, and what a buffer that held `before` holds then
unfoldable pub forecast_returned : List ℕ → ℕ → ℕ → ℕ → ℕ → Outcome
forecast_returned s h b hours room = returned_as (forecast_refusal s b hours room) (forecast_bytes h b (sheet_of s))

unfoldable pub forecast_written : List ℕ → ℕ → ℕ → ℕ → List ℕ → List ℕ
forecast_written s h b hours before = written_as (forecast_refusal s b hours (length before)) (forecast_bytes h b (sheet_of s)) before
