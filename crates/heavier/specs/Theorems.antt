-- Document 02, P14: what is proved of a heavier box in the same stack; proofs/Theorems shows that it holds.
use Rattle.std.specs.Prelude.{Ok, Err, ℕ, ◌<◌, ◌≤◌, List, ◌++◌, ◌≡◌, length}
use Rattle.arith.specs.Bytes.{le2}
use Rattle.arith.specs.Fractions.{Frac}
use Rattle.sheet.specs.declared.Sheet.{Sheet}
use Rattle.sheet.specs.Layout.{sheet_of}
use Rattle.sheet.specs.Fits.{Fits}
use Rattle.sheet.specs.Refusals.{refusal}
use Rattle.sheet.specs.Ends.{End}
use Rattle.statics.specs.Loads.{Rule, rule_of}
use Rattle.statics.specs.Ends.{EndSolved}
use Rattle.statics.specs.Theorems.{Proper}
use Rattle.answer.specs.Outcomes.{Outcome}
use Rattle.answer.specs.Checked.{AnswerTo, Checked, kept}
use Rattle.preview_moves.specs.Previews.{mass_place, with_mass, move_refusal, Previewed}
use Rattle.forecast.specs.Forecasts.{forecast_rule, forecast_refusal, Forecast}
use Rattle.heavier.specs.Heavier.{HeavierSheet, HeavierBytes, ExactNotLower, ReportedNotLower, NotLower}
use Rattle.heavier.specs.NotIncluded.{NotIncluded}

-- decoded sheets, for any share from 0 to 1 and any factor not below zero: at every solution of an end of each
abbrev pub ExactForces : Type 0
ExactForces =
    (rule : Rule) →
    Proper rule →
    (t u : Sheet) →
    Fits t →
    Fits u →
    HeavierSheet t u →
    (e : End) (Ds Es : List Frac) →
    EndSolved rule e t Ds →
    EndSolved rule e u Es →
    ExactNotLower rule e t u Ds Es

-- so by the rule of the sheets: either rule number, any route, boxes turned or not
abbrev pub ByRuleNumber : Type 0
ByRuleNumber =
    (t u : Sheet) →
    Fits t →
    Fits u →
    HeavierSheet t u →
    (e : End) (Ds Es : List Frac) →
    EndSolved (rule_of t) e t Ds →
    EndSolved (rule_of u) e u Es →
    ExactNotLower (rule_of t) e t u Ds Es

-- their answers, within any margin, whatever stands behind the bytes
abbrev pub ReportedForces : Type 0
ReportedForces =
    (margin : ℕ) (rule : Rule) →
    Proper rule →
    (t u : Sheet) →
    Fits t →
    Fits u →
    HeavierSheet t u →
    (s c restₛ rest : List ℕ) →
    AnswerTo margin rule t s →
    AnswerTo margin rule u c →
    ReportedNotLower margin t u (s ++ restₛ) (c ++ rest)

-- heavier bytes hold a heavier sheet
abbrev pub BytesHold : Type 0
BytesHold = (s c : List ℕ) → HeavierBytes s c → HeavierSheet (sheet_of s) (sheet_of c)

-- bytes to bytes: two runs of the check, each with a buffer of its own
abbrev pub OfChecks : Type 0
OfChecks =
    (s c : List ℕ) →
    HeavierBytes s c →
    (before₁ after₁ before₂ after₂ : List ℕ) (r₁ r₂ : Outcome) →
    refusal s (length before₁) ≡ Ok tt →
    refusal c (length before₂) ≡ Ok tt →
    Checked kept s before₁ after₁ r₁ →
    Checked kept c before₂ after₂ r₂ →
    NotLower rule_of (sheet_of s) (sheet_of c) after₁ after₂

-- two runs by the same forecast, of voyages of any hours that are taken
abbrev pub OfForecasts : Type 0
OfForecasts =
    (s c : List ℕ) →
    HeavierBytes s c →
    (h b hours₁ hours₂ : ℕ) (before₁ after₁ before₂ after₂ : List ℕ) (r₁ r₂ : Outcome) →
    forecast_refusal s b hours₁ (length before₁) ≡ Ok tt →
    forecast_refusal c b hours₂ (length before₂) ≡ Ok tt →
    Forecast kept s h b hours₁ before₁ after₁ r₁ →
    Forecast kept c h b hours₂ before₂ after₂ r₂ →
    NotLower (forecast_rule h b) (sheet_of s) (sheet_of c) after₁ after₂

-- the check of a sheet, and the preview of a mass that is no lower
abbrev pub OfPreview : Type 0
OfPreview =
    (s : List ℕ) (tier mass : ℕ) →
    mass < 65536 →
    le2 s (mass_place tier) ≤ mass →
    (before₁ after₁ before₂ after₂ : List ℕ) (r₁ r₂ : Outcome) →
    refusal s (length before₁) ≡ Ok tt →
    move_refusal s tier ≡ Ok tt →
    refusal (with_mass tier mass s) (length before₂) ≡ Ok tt →
    Checked kept s before₁ after₁ r₁ →
    Previewed kept s tier mass before₂ after₂ r₂ →
    NotLower rule_of (sheet_of s) (sheet_of (with_mass tier mass s)) after₁ after₂

pub record Theorems : Type 0 where
  pub exact : ExactForces
  pub by_rule_number : ByRuleNumber
  pub reported : ReportedForces
  pub bytes_hold : BytesHold
  pub of_checks : OfChecks
  pub of_forecasts : OfForecasts
  pub of_preview : OfPreview
  -- racking and corner tension
  pub not_included : NotIncluded
