-- The two numbers that the call returns: 0 to 21, and at most 834.
use Prim.Native.Nat.{ℕ}
use mathlib.Core.List.{List}
use mathlib.Core.Path.{subst}
use lib.Dec.{lit≤}
use lib.ListN.{length}
use Rattle.sheet.specs.Layout.{head_of}
use Rattle.sheet.specs.Refusals.{first, longest_answer}
use Rattle.sheet.proofs.Numbers.{call_numbers}
use Rattle.answer.specs.Outcomes.{Outcome}
use Rattle.answer.proofs.Numbers.{Numbers, Small, first_small, answered_numbers}
use Rattle.forecast.specs.Forecasts.{forecast_rows, forecast_refusal, Forecast}
use Rattle.forecast.proofs.Named.{within}

own_small : (route b hours : ℕ) → Small 21 (first (forecast_rows route b hours))
own_small route b hours =
    first_small 21 (forecast_rows route b hours) ((lit≤ tt, lit≤ tt, lit≤ tt), ((lit≤ tt, lit≤ tt, lit≤ tt), tt))

pub forecast_numbers :
    {margin : ℕ} {s : List ℕ} {h b hours : ℕ} {before after : List ℕ} {r : Outcome} →
    Forecast margin s h b hours before after r →
    Numbers 21 r
forecast_numbers {margin} {s} {h} {b} {hours} {before} {after} c =
    answered_numbers 21 (forecast_refusal s b hours (length before)) margin _ _ before after
    (λ _ e. call_numbers 21 834 (lit≤ tt) (lit≤ tt) s (forecast_rows (head_of s).route b hours) longest_answer (length before) (lit≤ tt)
    (λ _ q. subst (Small 21) q (own_small (head_of s).route b hours)) e) (within s h b hours before) c.holds
