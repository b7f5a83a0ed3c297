-- `cases_side::ask`: a side answer begins with its verdict and its count of tiers.
use mathlib.Core.List.{List}
use mathlib.Core.Path.{◌≡◌, sym, ◌∙◌}
use Prim.Native.Nat.{ℕ, ◌≤◌}
use native.Mathlib.Omega.{arith}
use Rattle.std.specs.Prelude.{Ok, Err, take, length}
use Rattle.std.proofs.Math.Seq.{take-append_seam}
use Rattle.sheet.specs.declared.Sheet.{Sheet}
use Rattle.sheet.specs.Refusals.{Reading}
use Rattle.sheet.proofs.Results.{ok_is, err_not_ok}
use Rattle.answer.specs.Outcomes.{Outcome}
use Rattle.side_walls.specs.SideWalls.{side_bytes}
use Rattle.side.specs.Sides.{SidedAs}
use Rattle.cases_side.proofs.ask.Goals as goal

two : (t : Sheet) (p : List ℕ) → 2 ≤ length (side_bytes t p)
unfolding side_bytes
two t p = omega arith

taken :
    (q : Reading) (t : Sheet) (p before after : List ℕ) {n : ℕ} {r : Outcome} →
    SidedAs q (side_bytes t p) before after r →
    r ≡ Ok n →
    2 ≤ length (take n after)
taken (Err why) t p before after h e = err_not_ok (sym h.refused ∙ e)
taken (Ok _) t p before after h e = rw (← ok_is (sym h.taken ∙ e), h.written, take-append_seam) (two t p)

pub tell_taken-requires : goal.tell_taken-requires
tell_taken-requires g c = taken _ _ _ _ _ c.side.ensures.holds c.in-Ok.is
