-- What is proved of the call with a forecast; proofs/Theorems shows that it holds.
use Rattle.std.specs.Prelude.{Ok, Err, ◌≡◌, List, ℕ, ◌≤◌, ◌<◌, length}
use Rattle.sheet.specs.declared.Sheet.{Sheet}
use Rattle.sheet.specs.Layout.{head_of, sheet_of}
use Rattle.sheet.specs.Ends.{End}
use Rattle.statics.specs.Loads.{Rule}
use Rattle.statics.specs.Ends.{OneSolution}
use Rattle.answer.specs.Outcomes.{Outcome}
use Rattle.answer.specs.Checked.{kept, demanded}
use Rattle.answer.specs.Consequences.{AnswerSays}
use Rattle.answer.specs.Inner.Named.{returned, written}
use Rattle.forecast_factor.specs.Factor.{factor}
use Rattle.forecast.specs.Forecasts.{forecast_rule, forecast_refusal, Forecast}
use Rattle.forecast.specs.Inner.Named.{forecast_returned, forecast_written}

-- demand 3 of document 01 by any rule, of a sheet t and the bytes s that begin with its answer (`DemandThree` of answer's Theorems, where
-- the rule is the sheet's own)
pub record DemandThreeBy (rule : Rule) (t : Sheet) (s : List ℕ) : Type 0 where
  pub one : (e : End) → OneSolution rule e t
  pub says : AnswerSays demanded rule t s

pub record Theorems : Type 0 where
  -- what the call answers, a function of its input by name, is what it must say
  pub forecast_named :
      (s : List ℕ) (h b hours : ℕ) (before : List ℕ) →
      Forecast kept s h b hours before (forecast_written s h b hours before) (forecast_returned s h b hours (length before))
  -- and that is demand 3, with the forecast's factor, for every sheet that is taken
  pub demand_three :
      (s : List ℕ) (h b hours : ℕ) (before after : List ℕ) (r : Outcome) →
      forecast_refusal s b hours (length before) ≡ Ok tt →
      Forecast kept s h b hours before after r →
      DemandThreeBy (forecast_rule h b (sheet_of s)) (sheet_of s) after
  -- with a factor of 1,000 thousandths, on a sheet of route 0, taken or refused, it returns and writes what the check does
  pub as_check :
      (s : List ℕ) (h b hours : ℕ) (before : List ℕ) →
      (head_of s).route ≡ 0 →
      hours < 72 →
      1 ≤ b →
      factor h b ≡ 1000 →
      (forecast_returned s h b hours (length before) ≡ returned s (length before))
      × (forecast_written s h b hours before ≡ written s before)
