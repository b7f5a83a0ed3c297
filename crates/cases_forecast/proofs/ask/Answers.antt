-- `cases_forecast::ask`: an answer begins with its verdict and, of the door end, its count of tiers and the racking of tier 1.
use mathlib.Core.List.{List}
use mathlib.Core.Path.{◌≡◌, sym, ◌∙◌}
use Prim.Native.Nat.{ℕ, ◌≤◌}
use native.Mathlib.Omega.{arith}
use lib.ListN.{length-append}
use Rattle.std.specs.Prelude.{Ok, Err, take, length}
use Rattle.std.proofs.Math.Seq.{take-append_seam}
use Rattle.sheet.specs.declared.Sheet.{Sheet}
use Rattle.sheet.specs.Refusals.{Reading}
use Rattle.sheet.proofs.Results.{ok_is, err_not_ok}
use Rattle.statics.specs.declared.Figures.{Figures}
use Rattle.statics.specs.Loads.{Rule}
use Rattle.answer.specs.Answers.{answer_bytes, end_bytes}
use Rattle.answer.specs.Outcomes.{Outcome}
use Rattle.answer.specs.Checked.{AnsweredAs}
use Rattle.cases_forecast.proofs.ask.Goals as goal

six : (t : Sheet) (f : Figures) → 6 ≤ length (answer_bytes t f)
unfolding answer_bytes end_bytes
six t f = simp length-append (omega arith)

taken :
    (q : Reading) (margin : ℕ) (rule : Rule) (t : Sheet) (before after : List ℕ) {n : ℕ} {r : Outcome} →
    AnsweredAs q margin rule t before after r →
    r ≡ Ok n →
    6 ≤ length (take n after)
taken (Err why) margin rule t before after h e = err_not_ok (sym h.refused ∙ e)
taken (Ok _) margin rule t before after h e =
    rw (← ok_is (sym h.taken ∙ e), h.written, take-append_seam, h.answer.encoded) (six t h.answer.figures)

pub tell_taken-requires : goal.tell_taken-requires
tell_taken-requires g c = taken _ _ _ _ _ _ c.forecast.ensures.answered.holds c.in-Ok.is
