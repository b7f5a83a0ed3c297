-- The theorems of specs/Theorems hold.
use Rattle.heavier.specs.Theorems.{Theorems}
use Rattle.heavier.proofs.Exact.{exact}
use Rattle.heavier.proofs.Reported.{reported}
use Rattle.heavier.proofs.OfBytes.{bytes_hold}
use Rattle.heavier.proofs.Runs.{by_rule_number, of_checks, of_forecasts, of_preview}
use Rattle.heavier.proofs.NotIncluded.{not_included}

pub theorems : Theorems
theorems =
    record {
      exact = exact;
      by_rule_number = by_rule_number;
      reported = reported;
      bytes_hold = bytes_hold;
      of_checks = of_checks;
      of_forecasts = of_forecasts;
      of_preview = of_preview;
      not_included = not_included;
    }
