-- What turns a taken sheet back, in its order, and what its answer is then.
use Rattle.std.specs.Prelude.{Ok, Err}
use mathlib.Core.Bool.{true, false, not, ◌||◌}
use mathlib.Core.Path.{◌≡◌, refl, ap, ap₂, sym, subst, ◌∙◌}
use mathlib.Core.List.{List, [], ◌∷◌}
use Prim.Native.Nat.{ℕ, ◌<◌}
use borrow.Author.Tests.{eq-eqb, ne_eqb, eqb-false}
use native.Mathlib.Omega.{arith}
use lib.Dec.{leb, eqb}
use lib.ListN.{length}
use Rattle.sheet.specs.Refusals.{Reading}
use Rattle.sheet.specs.declared.Sheet.{Sheet}
use Rattle.sheet.specs.declared.Tier.{Tier}
use Rattle.sheet.specs.Layout.{head_of, sheet_of}
use Rattle.sheet.specs.Refusals.{row13, first, sheet_rows, longest_answer}
use Rattle.sheet.specs.Inner.Changed.{with_tiers}
use Rattle.sheet.proofs.Bools.{or_false}
use Rattle.sheet.proofs.CallRefusals.{refusal_of_lem, refused_by_sheet}
use Rattle.sheet.proofs.Rows.{row_holds, row_passed, or_else}
use Rattle.statics.specs.declared.LoadRule.{LoadRule}
use Rattle.answer.specs.Outcomes.{Outcome}
use Rattle.answer.specs.Checked.{room_for, kept}
use Rattle.answer.specs.Inner.Named.{answer_by, returned_as, written_as}
use Rattle.forecast.specs.Forecasts.{row21, forecast_rows, forecast_refusal, Forecast}
use Rattle.forecast.specs.Inner.Named.{forecast_load_rule, forecast_bytes, own_reading, OwnAnswer, forecast_returned, forecast_written}
use Rattle.forecast.proofs.Named.{forecast_named}
use Rattle.sheet.specs.declared.Refusal.{Refusal}
use Rattle.sheet.specs.Refusals.{numbers}

-- what is returned and written, by cases on a refusal
abbrev pub By : Reading → List ℕ → List ℕ → List ℕ → Outcome → Type 0
By q bytes before after r = (r ≡ returned_as q bytes) × (after ≡ written_as q bytes before)

by_same :
    (bytes before : List ℕ) {q p : Reading} {after : List ℕ} {r : Outcome} →
    p ≡ q →
    By q bytes before after r →
    By p bytes before after r
by_same bytes before {q} {p} {after} {r} e y = subst (λ (x : Reading). By x bytes before after r) (sym e) y

-- a taken sheet
module _ (t : Sheet) (h b hours : ℕ) (before : List ℕ) where
  abbrev Own : List ℕ → Outcome → Type 0
  Own after r = OwnAnswer t h b hours before after r

  pub other_route : (t.head.route ≡ 0 → ⊥) → Own before (Err (numbers 20 0))
  other_route n = by_same (forecast_bytes h b t) before (row_holds _ _ (ap not (ne_eqb _ _ n))) (refl, refl)

  module _ (route : t.head.route ≡ 0) where
    past_route : own_reading t b hours (length before) ≡ first (row21 b hours ∷ row13 longest_answer (length before) ∷ [])
    past_route = row_passed _ _ (ap not (eq-eqb _ _ route))

    pub long_voyage : leb 72 hours || eqb b 0 ≡ true → Own before (Err (numbers 21 0))
    long_voyage e = by_same (forecast_bytes h b t) before (past_route ∙ row_holds _ _ e) (refl, refl)

    module _ (e : leb 72 hours || eqb b 0 ≡ false) where
      pub some_breadth : 0 < b
      some_breadth = omega (arith, eqb-false b 0 (or_false (leb 72 hours) (eqb b 0) e).1)

      pub answered :
          {c : LoadRule} {tiers : List Tier} {after : List ℕ} {r : Outcome} →
          c ≡ forecast_load_rule h b t →
          tiers ≡ t.tiers →
          By (room_for (length before)) (answer_by c (with_tiers tiers t)) before after r →
          Own after r
      answered {c} {tiers} {after} {r} is own y =
          let bytes = ap₂ (λ (c : LoadRule) (ts : List Tier). answer_by c (with_tiers ts t)) is own in
          by_same (forecast_bytes h b t) before (past_route ∙ row_passed _ _ e)
          (subst (λ (bs : List ℕ). By (room_for (length before)) bs before after r) bytes y)

-- a sheet's bytes
module _ (s : List ℕ) (h b hours : ℕ) (before : List ℕ) where
  abbrev Says : List ℕ → Outcome → Type 0
  Says after r =
      Forecast kept s h b hours before after r
      × ((r ≡ forecast_returned s h b hours (length before)) × (after ≡ forecast_written s h b hours before))

  by_refusal :
      {after : List ℕ} {r : Outcome} →
      By (forecast_refusal s b hours (length before)) (forecast_bytes h b (sheet_of s)) before after r →
      Says after r
  unfolding forecast_returned forecast_written
  by_refusal (e, g) = (rw (e, g) (forecast_named s h b hours before), (e, g))

  pub refused : {why : Refusal} → first (sheet_rows s) ≡ Err why → Says before (Err why)
  refused {why} e =
      by_refusal
      (by_same (forecast_bytes h b (sheet_of s)) before
      (refused_by_sheet s (forecast_rows (head_of s).route b hours) longest_answer (length before) e) (refl, refl))

  module _ (e : first (sheet_rows s) ≡ Ok tt) where
    past_sheet : forecast_refusal s b hours (length before) ≡ own_reading (sheet_of s) b hours (length before)
    unfolding sheet_of
    past_sheet =
        refusal_of_lem s (forecast_rows (head_of s).route b hours) longest_answer (length before)
        ∙ ap (λ (q : Reading). or_else q (own_reading (sheet_of s) b hours (length before))) e

    pub taken : {after : List ℕ} {r : Outcome} → OwnAnswer (sheet_of s) h b hours before after r → Says after r
    taken own = by_refusal (by_same (forecast_bytes h b (sheet_of s)) before past_sheet own)
