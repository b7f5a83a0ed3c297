-- What the call answers by name is what it must say.
use Rattle.std.specs.Prelude.{Ok, Err}
use mathlib.Core.Path.{◌≡◌, refl, ap, sym, ◌∙◌}
use mathlib.Core.List.{List}
use Prim.Native.Nat.{ℕ}
use native.Mathlib.Omega.{arith}
use lib.IntN.{pos}
use lib.ListN.{length}
use Rattle.arith.specs.Fractions.{recip}
use Rattle.sheet.specs.Refusals.{Reading}
use Rattle.sheet.specs.declared.Sheet.{Sheet}
use Rattle.sheet.specs.Layout.{head_of, sheet_of}
use Rattle.sheet.specs.Refusals.{longest_answer}
use Rattle.sheet.specs.Fits.{Fits}
use Rattle.sheet.proofs.CallRefusals.{sheet_taken_of}
use Rattle.sheet.proofs.SheetLimits.{sheet_limits}
use Rattle.sheet.proofs.TakenSheets.{taken_fits}
use Rattle.statics.specs.Loads.{StandsFor}
use Rattle.statics.proofs.EndChain.{rule_stands}
use Rattle.answer.specs.Checked.{AnsweredAs, kept}
use Rattle.answer.specs.Inner.Named.{returned_as, written_as}
use Rattle.answer.proofs.Named.{answer_named}
use Rattle.forecast_factor.proofs.Enough.{factor_most}
use Rattle.forecast.specs.Forecasts.{forecast_rule, forecast_rows, forecast_refusal, Forecast}
use Rattle.forecast.specs.Inner.Named.{forecast_load_rule, forecast_bytes, forecast_returned, forecast_written}

-- the rule in whole numbers stands for that of the forecast
pub stands : {t : Sheet} → Fits t → (h b : ℕ) → StandsFor (forecast_load_rule h b t) (forecast_rule h b t)
unfolding recip
stands f h b =
    let own = rule_stands (sheet_limits f) in
    record {
      share = own.share;
      factor = record { cross = ap pos (omega arith) };
      share_most = own.share_most;
      factor_most = factor_most h b;
    }

module _ (s : List ℕ) (h b hours : ℕ) (before : List ℕ) where
  abbrev turned_back : Reading
  turned_back = forecast_refusal s b hours (length before)

  -- a sheet that is not turned back is within the limits
  pub within : turned_back ≡ Ok tt → Fits (sheet_of s)
  within e =
      taken_fits s
      (sheet_taken_of s (forecast_rows (head_of s).route b hours) longest_answer (length before) e)

  pub forecast_named : Forecast kept s h b hours before (forecast_written s h b hours before) (forecast_returned s h b hours (length before))
  unfolding forecast_written forecast_returned
  forecast_named = record { holds = go turned_back refl }
    where
      go :
          (q : Reading) →
          turned_back ≡ q →
          AnsweredAs q kept (forecast_rule h b (sheet_of s)) (sheet_of s) before (written_as q (forecast_bytes h b (sheet_of s)) before)
          (returned_as q (forecast_bytes h b (sheet_of s)))
      go (Err why) e = record { refused = refl; untouched = refl }
      go (Ok _) e =
          let fits = within e in
          record { bytes = forecast_bytes h b (sheet_of s); answer = answer_named (stands fits h b) fits; taken = refl; written = refl }
