-- `cases_bay::ask`: a report begins with its number of accepted rows, its mass and its racking.
use mathlib.Core.List.{List}
use mathlib.Core.Path.{◌≡◌, sym, ◌∙◌}
use Prim.Native.Nat.{ℕ, ◌≤◌}
use native.Mathlib.Omega.{arith}
use Rattle.std.specs.Prelude.{Ok, Err, take, length}
use Rattle.std.proofs.Math.Seq.{take-append_seam}
use Rattle.sheet.proofs.Results.{ok_is, err_not_ok}
use Rattle.bay_rows.specs.Refusals.{BayReading}
use Rattle.bay.specs.Reports.{BayOutcome, report_bytes, ReportedAs}
use Rattle.cases_bay.proofs.ask.Goals as goal

nine : (b : List ℕ) (answer : ℕ → List ℕ) → 9 ≤ length (report_bytes b answer)
unfolding report_bytes
nine b answer = omega arith

taken :
    (q : BayReading) (margin : ℕ) (b before after : List ℕ) {n : ℕ} {r : BayOutcome} →
    ReportedAs q margin b before after r →
    r ≡ Ok n →
    9 ≤ length (take n after)
taken (Err why) margin b before after h e = err_not_ok (sym h.refused ∙ e)
taken (Ok _) margin b before after h e =
    rw (← ok_is (sym h.taken ∙ e), h.written, take-append_seam) (nine b h.answer)

pub tell_taken-requires : goal.tell_taken-requires
tell_taken-requires g c = taken _ _ _ _ _ c.report.ensures.reported.holds c.in-Ok.is
