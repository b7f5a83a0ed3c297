-- The theorems of specs/Theorems hold.
use Rattle.std.specs.Prelude.{Ok, Err}
use mathlib.Core.Bool.{not, ◌||◌}
use mathlib.Core.Path.{◌≡◌, ap, ap₂, sym, subst, ◌∙◌}
use mathlib.Core.List.{List, [], ◌∷◌}
use Prim.Native.Nat.{ℕ, ◌*◌, ◌≤◌, ◌<◌}
use native.Mathlib.Omega.{arith}
use borrow.Author.Tests.{eq-eqb, ne_eqb, lt-leb}
use lib.Dec.{lit≤}
use lib.ListN.{length, drop}
use Rattle.sheet.specs.Refusals.{Reading}
use Rattle.sheet.specs.Layout.{head_of, sheet_of}
use Rattle.sheet.specs.Refusals.{row13, first, sheet_rows, longest_answer, refusal}
use Rattle.sheet.specs.Routes.{route_percent}
use Rattle.sheet.proofs.CallRefusals.{refusal_of_lem}
use Rattle.sheet.proofs.Rows.{row_passed, or_else}
use Rattle.statics.specs.declared.LoadRule.{LoadRule}
use Rattle.statics.specs.Inner.Computed.{load_rule_of}
use Rattle.answer.specs.Outcomes.{Outcome}
use Rattle.answer.specs.Checked.{Answered, AnsweredAs, kept, demanded}
use Rattle.answer.specs.Consequences.{AnswerSays}
use Rattle.answer.specs.Inner.Named.{answer_by, check_bytes, returned_as, written_as, returned, written}
use Rattle.answer.proofs.Consequences as C
use Rattle.answer.proofs.Theorems.{answer_wider}
use Rattle.forecast_factor.specs.Factor.{factor}
use Rattle.forecast.specs.Forecasts.{forecast_rule, row20, row21, forecast_rows, forecast_refusal, Forecast}
use Rattle.forecast.specs.Theorems.{DemandThreeBy, Theorems}
use Rattle.forecast.specs.Inner.Named.{forecast_load_rule, forecast_bytes, forecast_returned, forecast_written}
use Rattle.forecast.proofs.Named.{forecast_named}

demand_three :
    (s : List ℕ) (h b hours : ℕ) (before after : List ℕ) (r : Outcome) →
    forecast_refusal s b hours (length before) ≡ Ok tt →
    Forecast kept s h b hours before after r →
    DemandThreeBy (forecast_rule h b (sheet_of s)) (sheet_of s) after
demand_three s h b hours before after r e c =
    let rule = forecast_rule h b (sheet_of s) in
    let a : Answered kept rule (sheet_of s) before after r =
    subst (λ (q : Reading). AnsweredAs q kept rule (sheet_of s) before after r) e c.holds in
    let wide = answer_wider (lit≤ tt) a.answer in
    record {
      one = a.answer.one;
      says =
          subst (λ (l : List ℕ). AnswerSays demanded rule (sheet_of s) l) (sym a.written)
          (C.says wide (drop (length a.bytes) before));
    }

-- route 0 has 100 percent: the sheet's own rule
module _ (s : List ℕ) (h b hours : ℕ) (route : (head_of s).route ≡ 0) (short : hours < 72) (some : 1 ≤ b) (full : factor h b ≡ 1000) where
  same_rule : forecast_load_rule h b (sheet_of s) ≡ load_rule_of (sheet_of s)
  unfolding sheet_of
  same_rule =
      ap (λ (f : ℕ). record { share = (load_rule_of (sheet_of s)).share; factor = f })
      (full ∙ sym (ap (λ (r : ℕ). 10 * route_percent r) route))

  same_refusal : (room : ℕ) → forecast_refusal s b hours room ≡ refusal s room
  unfolding refusal
  same_refusal room =
      refusal_of_lem s (forecast_rows (head_of s).route b hours) longest_answer room
      ∙ ap (λ (q : Reading). or_else (first (sheet_rows s)) q) (past_route ∙ past_voyage)
      ∙ sym (refusal_of_lem s [] longest_answer room)
    where
      past_route :
          first (row20 (head_of s).route ∷ row21 b hours ∷ row13 longest_answer room ∷ []) ≡
          first (row21 b hours ∷ row13 longest_answer room ∷ [])
      past_route = row_passed _ _ (ap not (eq-eqb (head_of s).route 0 route))

      no_breadth : b ≡ 0 → ⊥
      no_breadth e = omega arith

      past_voyage : first (row21 b hours ∷ row13 longest_answer room ∷ []) ≡ first (row13 longest_answer room ∷ [])
      past_voyage = row_passed _ _ (ap₂ ◌||◌ (lt-leb 72 hours short) (ne_eqb b 0 no_breadth))

  same_bytes : forecast_bytes h b (sheet_of s) ≡ check_bytes s
  same_bytes = ap (λ (c : LoadRule). answer_by c (sheet_of s)) same_rule

  as_check :
      (before : List ℕ) →
      (forecast_returned s h b hours (length before) ≡ returned s (length before))
      × (forecast_written s h b hours before ≡ written s before)
  unfolding forecast_returned forecast_written returned written
  as_check before = (
    ap₂ returned_as (same_refusal (length before)) same_bytes,
    ap₂ (λ (q : Reading) (bytes : List ℕ). written_as q bytes before) (same_refusal (length before)) same_bytes,
  )

pub theorems : Theorems
theorems =
    record {
      forecast_named = forecast_named;
      demand_three = demand_three;
      as_check = λ s h b hours before route short some full. as_check s h b hours route short some full before;
    }
